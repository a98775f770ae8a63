use Rattle.std.proofs.Common.{◌∙◌, Err, ap, arith}
use Rattle.std.specs.FinMap as map
use Rattle.mlt_hash.proofs.Names.{Page}
use Rattle.mlt_hash.proofs.OpenedFiles.{IsMade, no_pages, one_more, only_memory, active, same_limit}
use Rattle.mlt_hash.proofs.opening.open_file.Goals as goal

pub returns-in_err-bucket-clause-refusal : goal.returns-in_err-bucket-clause-refusal
returns-in_err-bucket-clause-refusal c =
    let none = no_pages c.args.store.now c.requires.no_page in
    only_memory c.from_residual.result c.in_err-bucket.field-0.0 (map.len c.args.store.now.pages) c.args.store.now.max_pages c.from_residual.ensures.1 c.in_err-bucket.ensures.refusal (λ is. c.in_err-bucket.ensures.no_room.0 (ap Err is)) (omega (arith, none, c.requires.room))

pub returns-in_err-dir-clause-refusal : goal.returns-in_err-dir-clause-refusal
returns-in_err-dir-clause-refusal c =
    let first : IsMade c.args.store.now c.grow.new.self c.in_ok-bucket.bucket _ = record { fresh = c.in_ok-bucket.ensures.fresh; made = c.in_ok-bucket.ensures.made } in
    let none = no_pages c.args.store.now c.requires.no_page in
    let one = one_more c.args.store.now c.grow.new.self c.in_ok-bucket.bucket _ first in
    let limit = same_limit c.args.store.now c.grow.new.self c.in_ok-bucket.bucket _ first in
    only_memory c.from_residual-in_err-dir.result c.in_err-dir.field-0.0 (map.len c.grow.new.self.pages) c.grow.new.self.max_pages c.from_residual-in_err-dir.ensures.1 c.in_err-dir.ensures.refusal (λ is. c.in_err-dir.ensures.no_room.0 (ap Err is)) (omega (arith, none, one, limit, c.requires.room))

pub returns-in_err-head-clause-refusal : goal.returns-in_err-head-clause-refusal
returns-in_err-head-clause-refusal c =
    let first : IsMade c.args.store.now c.grow.new.self c.in_ok-bucket.bucket _ = record { fresh = c.in_ok-bucket.ensures.fresh; made = c.in_ok-bucket.ensures.made } in
    let second : IsMade c.grow.new.self c.grow-2.new.self c.in_ok-dir.dir _ = record { fresh = c.in_ok-dir.ensures.fresh; made = c.in_ok-dir.ensures.made } in
    let none = no_pages c.args.store.now c.requires.no_page in
    let one = one_more c.args.store.now c.grow.new.self c.in_ok-bucket.bucket _ first in
    let two = one_more c.grow.new.self c.grow-2.new.self c.in_ok-dir.dir _ second in
    let limit = same_limit c.grow.new.self c.grow-2.new.self c.in_ok-dir.dir _ second ∙ same_limit c.args.store.now c.grow.new.self c.in_ok-bucket.bucket _ first in
    only_memory c.from_residual-in_err-head.result c.in_err-head.field-0.0 (map.len c.grow-2.new.self.pages) c.grow-2.new.self.max_pages c.from_residual-in_err-head.ensures.1 c.in_err-head.ensures.refusal (λ is. c.in_err-head.ensures.no_room.0 (ap Err is)) (omega (arith, none, one, two, limit, c.requires.room))

pub returns-clause-opening : goal.returns-clause-opening
returns-clause-opening c =
    let first : IsMade c.args.store.now c.grow.new.self c.in_ok-bucket.bucket _ = record { fresh = c.in_ok-bucket.ensures.fresh; made = c.in_ok-bucket.ensures.made } in
    let second : IsMade c.grow.new.self c.grow-2.new.self c.in_ok-dir.dir _ = record { fresh = c.in_ok-dir.ensures.fresh; made = c.in_ok-dir.ensures.made } in
    let third : IsMade c.grow-2.new.self c.grow-3.new.self c.in_ok-head.head _ = record { fresh = c.in_ok-head.ensures.fresh; made = c.in_ok-head.ensures.made } in (
      c.in_ok-dir.dir,
      c.in_ok-bucket.bucket,
      active c.args.store.now c.grow.new.self c.grow-2.new.self c.grow-3.new.self c.in_ok-bucket.bucket c.in_ok-dir.dir c.in_ok-head.head _ _ _ c.requires.no_page first second third
          (c.in_ok-header.ensures.page ∙ (λ i. Page.Head (record { depth = c.new-2.ensures.depth i; dirs = c.new-2.ensures.dirs i })))
          (c.in_ok-listed.ensures.page ∙ ap Page.Dir c.new.ensures)
          (λ i. Page.Bucket (record { depth = c.empty.ensures.depth i; slots = c.empty.ensures.slots i })),
    )

pub returns-clause-pages : goal.returns-clause-pages
returns-clause-pages c =
    let first : IsMade c.args.store.now c.grow.new.self c.in_ok-bucket.bucket _ = record { fresh = c.in_ok-bucket.ensures.fresh; made = c.in_ok-bucket.ensures.made } in
    let second : IsMade c.grow.new.self c.grow-2.new.self c.in_ok-dir.dir _ = record { fresh = c.in_ok-dir.ensures.fresh; made = c.in_ok-dir.ensures.made } in
    let third : IsMade c.grow-2.new.self c.grow-3.new.self c.in_ok-head.head _ = record { fresh = c.in_ok-head.ensures.fresh; made = c.in_ok-head.ensures.made } in
    let none = no_pages c.args.store.now c.requires.no_page in
    let one = one_more c.args.store.now c.grow.new.self c.in_ok-bucket.bucket _ first in
    let two = one_more c.grow.new.self c.grow-2.new.self c.in_ok-dir.dir _ second in
    let three = one_more c.grow-2.new.self c.grow-3.new.self c.in_ok-head.head _ third in
    omega (arith, none, one, two, three)
