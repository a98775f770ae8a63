use Rattle.std.proofs.Common.{rules, ◌≡◌, ◌∙◌, ℕ, IfSome, None, OnSome, Option, Some, ap, length, subst, sym, true}
use Rattle.mlt_serve.proofs.service.fn.Service.serve_connections.scope.Goals.{then-is_short, in-None, in-Some, else-is_short}
use Rattle.mlt_serve.proofs.service.fn.Service.serve_connections.scope.Goals as goal

pub returns : goal.returns
returns g c =
    let is_over = g.B.BaseSource.is_over in
    let given = g.B.BaseSource.given in
    let same : c.match-loaded.loaded ≡ c.if-is_short.loaded = elim c.match-loaded.branch [
      | in-Some v ↦ search (rules, v.loaded-is, v.in-Some)
      | in-None v ↦ search (rules, v.loaded-is)
    ] in
    elim c.if-is_short.branch [
      | else-is_short w ↦
          let last = w.load-loaded.new.base in
          let told : w.load-loaded.result ≡ Some c.in_ok-loaded.field-0 = sym w.loaded-is ∙ sym same ∙ c.in_ok-loaded.was in
          let is : last ≡ c.if-is_short.base = sym w.base-is in
          let over : is_over last ≡ true = subst (λ (r : Option ℕ). OnSome r (is_over last ≡ true)) told w.load-loaded.ensures.over in
          let count : c.in_ok-loaded.field-0 ≡ length (given last) = subst (λ (r : Option ℕ). IfSome r (λ n. n ≡ length (given last))) told w.load-loaded.ensures.count in
          record { heard = search (rules, w.loader-is, w.base-is, told, w.load-loaded.ensures.heard); over = ap is_over (sym is) ∙ over; count = count ∙ ap (λ b. length (given b)) is }
      | then-is_short w ↦
          let none : None ≡ Some c.in_ok-loaded.field-0 = sym w.loaded-is ∙ sym same ∙ c.in_ok-loaded.was in
          absurd (subst (λ (r : Option ℕ). IfSome r (λ _. ⊥)) none tt)
    ]
