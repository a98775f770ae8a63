-- A manager under a lock has executed one more event.
use Rattle.std.proofs.Common.{◌≡◌, ◌∙◌, ◌+◌, ◌-◌, ◌^◌, min, List, [], ◌∷◌, ◌++◌, length, map, ap, subst, sym, length-append, arith}
use Rattle.std.proofs.lemmas.{Grind.merely, List.map-append}
use mathlib.Core.Logic.{∥∥₁_map}
use Rattle.mlt_work_desk.proofs.Names.{TraceItem, Event, Told, ManagerFields}
use Rattle.mlt_manager.{specs.Courses.Course, specs.Courses.HasAdded, specs.Courses.Tells, specs.Courses.TellsAll, specs.Courses.course_of, specs.Courses.opening_course, specs.HandingOut.HandsOut, proofs.Courses.tells_on}
use Rattle.mlt_work_desk.specs.{Playing.HaveMade, declared.log_handles.Past.Past}

module _ {P : Type 0} where
  -- **No event has made the course of a new manager.**
  pub none_made : (m : ManagerFields P) → m.events ≡ 0 → course_of m ≡ opening_course → m.shared.history.items ≡ [] → HaveMade [] m
  none_made m none new no_items =
      let count : m.events ≡ min 0 (2 ^ 64 - 1) = omega (arith, none) in
      merely (count, (new, no_items))

  -- **An event is one more.**
  pub one_more_made : (acts now : List (Event × Told)) (e : Event) (t : Told) (m m' : ManagerFields P) → now ≡ acts ++ (e, t) ∷ [] → m'.events ≡ min (m.events + 1) (2 ^ 64 - 1)
      → Tells (course_of m) e t (course_of m') → HasAdded (course_of m) e t (course_of m') m.shared.history.items m'.shared.history.items → HaveMade acts m → HaveMade now m'
  one_more_made acts now e t m m' is counts tells adds made =
      let all = acts ++ (e, t) ∷ [] in
      let events = map-append (λ (act : Event × Told). act.0) acts ((e, t) ∷ []) in
      let tolds = map-append (λ (act : Event × Told). act.1) acts ((e, t) ∷ []) in
      let items = m'.shared.history.items in
      let long : length all ≡ length acts + 1 = length-append acts ((e, t) ∷ []) in
      let longer : HaveMade all m' = ∥∥₁_map made (λ h.
      let before = h.0 in
      let count : m'.events ≡ min (length all) (2 ^ 64 - 1) = omega (arith, counts, before, long) in (
        count,
        subst (λ es. TellsAll opening_course es (map (λ (act : Event × Told). act.1) all) (course_of m') items) (sym events)
            (subst (λ ts. TellsAll opening_course (map (λ (act : Event × Told). act.0) acts ++ e ∷ []) ts (course_of m') items) (sym tolds)
            (tells_on opening_course (course_of m) (course_of m') _ _ m.shared.history.items items e t h.1 tells adds)),
      )) in
      subst (λ xs. HaveMade xs m') (sym is) longer

  -- **What is handed out changes nothing of it.**
  pub still_made : (acts : List (Event × Told)) (m m' : ManagerFields P) → HandsOut m m' → HaveMade acts m → HaveMade acts m'
  still_made acts m m' hands made = ∥∥₁_map made (λ h. (
    ap (λ (n : ManagerFields P). n.events) hands.same ∙ h.0,
    subst (λ (x : Course × List TraceItem). TellsAll opening_course (map (λ (act : Event × Told). act.0) acts) (map (λ (act : Event × Told). act.1) acts) x.0 x.1)
        (sym (ap (λ (n : ManagerFields P). (course_of n, n.shared.history.items)) hands.same)) h.1,
  ))

  -- the same past is as before
  pub same_made : (past past' : Past) (m : ManagerFields P) → past' ≡ past → HaveMade past.acts m → HaveMade past'.acts m
  same_made past past' m same made = subst (λ (p : Past). HaveMade p.acts m) (sym same) made
