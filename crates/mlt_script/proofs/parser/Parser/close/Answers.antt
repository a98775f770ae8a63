use Rattle.std.proofs.Common.{◌≡◌, length, reverse, List, [], ap, sym, refl, ◌∙◌, ◌∷◌, ◌++◌, Ok, rules, arith}
use Rattle.mlt_script.proofs.Names.{Frame, Line, Open, Closes, state_of, ended, step, Outside, Inside, ScriptForm, open_of, whole}
use Rattle.mlt_script.{specs.Parsers.state_with, specs.Scripts.tree_of, proofs.Placing.at_top}
use Rattle.mlt_script.proofs.parser.Parser.close.Goals as goal

is_none : (fs : List Frame) → length fs ≡ 0 → reverse fs ≡ []
is_none [] h = refl
is_none (f ∷ fs) h = absurd (omega (arith, h))

pub new-requires : goal.new-requires
unfolding tree_of
new-requires c =
    let s = c.in-Some.script in
    let z : length s.ifs.items ≡ 0 = search rules in
    let top = at_top (open_of s.lines.items) s.lines.items s.count (s.kept, s.counted, s.framed ∙ is_none s.ifs.items z, s.wide, s.deep) in
    record { client = search rules; lines = rw c.give_back.ensures top.1; longest = rw c.give_back.ensures top.2; nesting = rw c.give_back.ensures top.3 }

pub returns-in_ok-push-in-Some : goal.returns-in_ok-push-in-Some
unfolding tree_of
returns-in_ok-push-in-Some c =
    let s = c.in-Some.script in
    let z : length s.ifs.items ≡ 0 = search rules in
    let top = at_top (open_of s.lines.items) s.lines.items s.count (s.kept, s.counted, s.framed ∙ is_none s.ifs.items z, s.wide, s.deep) in
    let scripts = c.args.self.now.scripts.items in
    let more : c.push.new.self.items ≡ scripts ++ record { client = s.client; block = whole (open_of s.lines.items); ending = c.args.ending } ∷ [] =
    c.in_ok-push-in-Some.ensures.items ∙ ap (λ (x : ScriptForm). scripts ++ x ∷ []) (c.new.ensures
    ∙ ap (λ (lines : List Line). record { client = s.client; block = tree_of lines; ending = c.args.ending }) c.give_back.ensures) in
    let begun : state_of c.args.self.now ≡ Inside scripts s.client (open_of s.lines.items) = ap (state_with scripts) (sym c.take.ensures.value ∙ c.in-Some.is) in
    ap (λ state. step state (Closes c.args.ending)) begun ∙ ap (λ (o : Open). ended scripts s.client o c.args.ending) top.0 ∙ ap (λ (xs : List ScriptForm). Ok (Outside xs)) (sym more)
    ∙ ap (λ begun. Ok (state_with c.push.new.self.items begun)) (sym c.take.ensures.after)
