use Rattle.std.proofs.Common.{◌≡◌, ◌∷◌, ◌++◌, [], reverse, ap, refl, ◌∙◌, List, Bool, true, false, not}
use Rattle.mlt_script.proofs.Names.{reverse-append, Line, Else, End}
use Rattle.mlt_script.proofs.{Placing.kept_end, Placing.kept_end_first, open_script.OpenScript.close.Goals.then-not-frame+in_ok-push-in-Some, open_script.OpenScript.close.Goals.else-not-frame}
use Rattle.mlt_script.proofs.open_script.OpenScript.close.Goals as goal

was_false : (b : Bool) → not b ≡ true → b ≡ false
was_false true h = absurd (cc h)
was_false false h = refl

was_true : (b : Bool) → not b ≡ false → b ≡ true
was_true true h = refl
was_true false h = absurd (cc h)

pub invariant_of-result : goal.invariant_of-result
invariant_of-result c =
    let s = c.args.self in
    let left = c.pop.new.self.items in
    let h : reverse s.ifs.items ≡ c.in-Some.frame ∷ reverse left = ap reverse c.in-Some.ensures.items ∙ reverse-append left (c.in-Some.frame ∷ []) in
    elim c.if-not-frame.branch [
      | then-not-frame+in_ok-push-in-Some w ↦
          let items : c.push-in-Some.new.self.items ≡ (s.lines.items ++ Else ∷ []) ++ End ∷ [] =
          c.in_ok-push-in-Some-2.ensures.items ∙ ap (λ (xs : List Line). xs ++ End ∷ []) (ap (λ v. v.items) w.lines-is ∙ w.in_ok-push-in-Some.ensures.items) in
          let k = kept_end_first s.lines.items c.push-in-Some.new.self.items s.count c.max.result c.in-Some.frame (reverse left) (reverse s.ifs.items)
          items h (was_false c.in-Some.frame.turned w.if-not-frame.true) c.max.ensures (s.kept, s.counted, s.framed, s.wide, s.deep) in
          record { client_in_range = s.client_in_range; kept = k.0.0; counted = k.0.1; framed = k.0.2; wide = k.0.3; deep = k.0.4 }
      | else-not-frame w ↦
          let items : c.push-in-Some.new.self.items ≡ s.lines.items ++ End ∷ [] =
          c.in_ok-push-in-Some-2.ensures.items ∙ ap (λ (xs : List Line). xs ++ End ∷ []) (ap (λ v. v.items) w.lines-is) in
          let k = kept_end s.lines.items c.push-in-Some.new.self.items s.count c.max.result c.in-Some.frame (reverse left) (reverse s.ifs.items)
          items h (was_true c.in-Some.frame.turned w.if-not-frame.false) c.max.ensures (s.kept, s.counted, s.framed, s.wide, s.deep) in
          record { client_in_range = s.client_in_range; kept = k.0.0; counted = k.0.1; framed = k.0.2; wide = k.0.3; deep = k.0.4 }
    ]

pub returns-clause-lines : goal.returns-clause-lines
returns-clause-lines c =
    let s = c.args.self in
    let left = c.pop.new.self.items in
    let h : reverse s.ifs.items ≡ c.in-Some.frame ∷ reverse left = ap reverse c.in-Some.ensures.items ∙ reverse-append left (c.in-Some.frame ∷ []) in
    elim c.if-not-frame.branch [
      | then-not-frame+in_ok-push-in-Some w ↦
          let items : c.push-in-Some.new.self.items ≡ (s.lines.items ++ Else ∷ []) ++ End ∷ [] =
          c.in_ok-push-in-Some-2.ensures.items ∙ ap (λ (xs : List Line). xs ++ End ∷ []) (ap (λ v. v.items) w.lines-is ∙ w.in_ok-push-in-Some.ensures.items) in
          let k = kept_end_first s.lines.items c.push-in-Some.new.self.items s.count c.max.result c.in-Some.frame (reverse left) (reverse s.ifs.items)
          items h (was_false c.in-Some.frame.turned w.if-not-frame.true) c.max.ensures (s.kept, s.counted, s.framed, s.wide, s.deep) in
          k.1
      | else-not-frame w ↦
          let items : c.push-in-Some.new.self.items ≡ s.lines.items ++ End ∷ [] =
          c.in_ok-push-in-Some-2.ensures.items ∙ ap (λ (xs : List Line). xs ++ End ∷ []) (ap (λ v. v.items) w.lines-is) in
          let k = kept_end s.lines.items c.push-in-Some.new.self.items s.count c.max.result c.in-Some.frame (reverse left) (reverse s.ifs.items)
          items h (was_true c.in-Some.frame.turned w.if-not-frame.false) c.max.ensures (s.kept, s.counted, s.framed, s.wide, s.deep) in
          k.1
    ]
