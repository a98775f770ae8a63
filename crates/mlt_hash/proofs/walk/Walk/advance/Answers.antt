use Rattle.std.proofs.Common.{◌≡◌, refl, ap, sym, subst, ◌∙◌, arith, ◌↔◌}
use Rattle.mlt_hash.proofs.Names.{Refusal, local, WalkContext, WalkFields, page_of, TellsAt, walk_step, steps_to_bucket, WalkAnswer, Phase}
use Rattle.mlt_hash_access.specs.PageSteps.{HasNoPageLeft}
use Rattle.mlt_hash.specs.Splitting.{HasToMake}
use Rattle.mlt_hash.proofs.Splittings.{adding_finds_none, earlier_finds_none, locks_if_found, path_has_room, splitting_finds_none}
use Rattle.mlt_hash.proofs.walk.Walk.advance.Goals as goal

-- the phase that is matched is the walk's
at : {inside walk : WalkFields} {phase : Phase} → inside ≡ walk → inside.phase ≡ phase → walk.phase ≡ phase
at view is = sym (ap (λ (w : WalkFields). w.phase) view) ∙ is

pub read_header-requires : goal.read_header-requires
read_header-requires g c κs within = (within, (ap (λ (b : WalkContext). b.tx) c.requires.1.0, (ap (λ (b : WalkContext). b.root) c.requires.1.0, (ap (λ (b : WalkContext). b.bits) c.requires.1.0, (at c.self.view_is c.in-Start.is, c.requires.1.1.1)))))

pub read_directory-requires : goal.read_directory-requires
read_directory-requires g c κs within = (within, (ap (λ (b : WalkContext). b.tx) c.requires.1.0, (ap (λ (b : WalkContext). b.root) c.requires.1.0, (ap (λ (b : WalkContext). b.bits) c.requires.1.0, (at c.self.view_is c.in-Headed.is, c.requires.1.1.1)))))

pub read_bucket-requires : goal.read_bucket-requires
read_bucket-requires g c κs within = (within, (ap (λ (b : WalkContext). b.tx) c.requires.1.0, (ap (λ (b : WalkContext). b.root) c.requires.1.0, (ap (λ (b : WalkContext). b.bits) c.requires.1.0, (at c.self.view_is c.in-Placed.is, c.requires.1.1.1)))))

pub add_or_split-requires : goal.add_or_split-requires
add_or_split-requires g c κs within = (within, (refl, (c.requires.1.0, (at c.self.view_is c.in-Adding.is, c.requires.1.1.1))))

pub go_on_splitting-requires : goal.go_on_splitting-requires
go_on_splitting-requires g c κs within = (within, (refl, (ap (λ (b : WalkContext). b.root) c.requires.1.0, (at c.self.view_is c.in-Splitting.is, c.requires.1.1.1))))

pub returns-in-Start-clause-tells : goal.returns-in-Start-clause-tells
returns-in-Start-clause-tells g c = subst (λ p. TellsAt p g.context (local c.args.subtx.now c.args.pages.now) (local c.args.subtx.now c.read_header.new.pages) c.args.self.now c.read_header.new.walk c.read_header.result) (sym (at c.self.view_is c.in-Start.is)) c.read_header.ensures.tells

pub returns-in-Headed-clause-tells : goal.returns-in-Headed-clause-tells
returns-in-Headed-clause-tells g c = subst (λ p. TellsAt p g.context (local c.args.subtx.now c.args.pages.now) (local c.args.subtx.now c.read_directory.new.pages) c.args.self.now c.read_directory.new.walk c.read_directory.result) (sym (at c.self.view_is c.in-Headed.is)) c.read_directory.ensures.tells

pub returns-in-Placed-clause-tells : goal.returns-in-Placed-clause-tells
returns-in-Placed-clause-tells g c = subst (λ p. TellsAt p g.context (local c.args.subtx.now c.args.pages.now) (local c.args.subtx.now c.read_bucket.new.pages) c.args.self.now c.read_bucket.new.walk c.read_bucket.result) (sym (at c.self.view_is c.in-Placed.is)) c.read_bucket.ensures.tells

pub returns-in-Adding-clause-tells : goal.returns-in-Adding-clause-tells
returns-in-Adding-clause-tells g c = subst (λ p. TellsAt p g.context (local c.args.subtx.now c.args.pages.now) (local c.add_or_split.new.subtx c.add_or_split.new.pages) c.args.self.now c.add_or_split.new.walk c.add_or_split.result) (sym (at c.self.view_is c.in-Adding.is)) c.add_or_split.ensures.tells

pub returns-in-Splitting-clause-tells : goal.returns-in-Splitting-clause-tells
returns-in-Splitting-clause-tells g c = subst (λ p. TellsAt p g.context (local c.args.subtx.now c.args.pages.now) (local c.go_on_splitting.new.subtx c.go_on_splitting.new.pages) c.args.self.now c.go_on_splitting.new.walk c.go_on_splitting.result) (sym (at c.self.view_is c.in-Splitting.is)) c.go_on_splitting.ensures.tells

pub returns-in-Start-clause-locks : goal.returns-in-Start-clause-locks
returns-in-Start-clause-locks g c = earlier_finds_none g.context (local c.args.subtx.now c.args.pages.now) (local c.args.subtx.now c.read_header.new.pages) c.args.self.now c.read_header.new.walk c.read_header.result (omega (arith, ap steps_to_bucket (at c.self.view_is c.in-Start.is))) c.read_header.ensures.tells

pub returns-in-Headed-clause-locks : goal.returns-in-Headed-clause-locks
returns-in-Headed-clause-locks g c = earlier_finds_none g.context (local c.args.subtx.now c.args.pages.now) (local c.args.subtx.now c.read_directory.new.pages) c.args.self.now c.read_directory.new.walk c.read_directory.result (omega (arith, ap steps_to_bucket (at c.self.view_is c.in-Headed.is))) c.read_directory.ensures.tells

pub returns-in-Placed-clause-locks : goal.returns-in-Placed-clause-locks
returns-in-Placed-clause-locks g c = locks_if_found (local c.args.subtx.now c.args.pages.now) (local c.args.subtx.now c.read_bucket.new.pages) (page_of c.read_bucket.new.walk.phase) c.read_bucket.result c.read_bucket.ensures.locks

pub returns-in-Adding-clause-locks : goal.returns-in-Adding-clause-locks
returns-in-Adding-clause-locks g c = adding_finds_none g.context (walk_step (local c.args.subtx.now c.args.pages.now) (local c.add_or_split.new.subtx c.add_or_split.new.pages) c.args.self.now c.add_or_split.new.walk) c.in-Adding.value c.in-Adding.bucket c.in-Adding.room_depth c.add_or_split.result c.add_or_split.ensures.tells

pub returns-in-Splitting-clause-locks : goal.returns-in-Splitting-clause-locks
returns-in-Splitting-clause-locks g c = splitting_finds_none g.context (walk_step (local c.args.subtx.now c.args.pages.now) (local c.go_on_splitting.new.subtx c.go_on_splitting.new.pages) c.args.self.now c.go_on_splitting.new.walk) c.in-Splitting.value c.in-Splitting.depth c.go_on_splitting.result c.go_on_splitting.ensures.tells

pub returns-in-Start-clause-no_room : goal.returns-in-Start-clause-no_room
returns-in-Start-clause-no_room g c = (
  λ is. absurd (path_has_room g.context (local c.args.subtx.now c.args.pages.now) (local c.args.subtx.now c.read_header.new.pages) c.args.self.now c.read_header.new.walk c.read_header.result c.read_header.ensures.tells is),
  λ both. absurd (subst (λ p. HasToMake p g.context (local c.args.subtx.now c.args.pages.now) c.args.self.now) (at c.self.view_is c.in-Start.is) both.0),
)

pub returns-in-Headed-clause-no_room : goal.returns-in-Headed-clause-no_room
returns-in-Headed-clause-no_room g c = (
  λ is. absurd (path_has_room g.context (local c.args.subtx.now c.args.pages.now) (local c.args.subtx.now c.read_directory.new.pages) c.args.self.now c.read_directory.new.walk c.read_directory.result c.read_directory.ensures.tells is),
  λ both. absurd (subst (λ p. HasToMake p g.context (local c.args.subtx.now c.args.pages.now) c.args.self.now) (at c.self.view_is c.in-Headed.is) both.0),
)

pub returns-in-Placed-clause-no_room : goal.returns-in-Placed-clause-no_room
returns-in-Placed-clause-no_room g c = (
  λ is. absurd (path_has_room g.context (local c.args.subtx.now c.args.pages.now) (local c.args.subtx.now c.read_bucket.new.pages) c.args.self.now c.read_bucket.new.walk c.read_bucket.result c.read_bucket.ensures.tells is),
  λ both. absurd (subst (λ p. HasToMake p g.context (local c.args.subtx.now c.args.pages.now) c.args.self.now) (at c.self.view_is c.in-Placed.is) both.0),
)

pub returns-in-Adding-clause-no_room : goal.returns-in-Adding-clause-no_room
returns-in-Adding-clause-no_room g c = subst (λ p. (c.add_or_split.result ≡ WalkAnswer.Refused Refusal.NoRoom) ↔ (HasToMake p g.context (local c.args.subtx.now c.args.pages.now) c.args.self.now × HasNoPageLeft c.args.pages.now.store)) (sym (at c.self.view_is c.in-Adding.is)) c.add_or_split.ensures.no_room

pub returns-in-Splitting-clause-no_room : goal.returns-in-Splitting-clause-no_room
returns-in-Splitting-clause-no_room g c =
    subst (λ p. (c.go_on_splitting.result ≡ WalkAnswer.Refused Refusal.NoRoom) ↔ (HasToMake p g.context (local c.args.subtx.now c.args.pages.now) c.args.self.now × HasNoPageLeft c.args.pages.now.store)) (sym (at c.self.view_is c.in-Splitting.is)) c.go_on_splitting.ensures.no_room
