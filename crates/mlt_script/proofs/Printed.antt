-- Printed scripts are read again.
use Rattle.std.proofs.Common.{◌≡◌, ℕ, List, [], ◌∷◌, ◌++◌, map, inl, inr, true, Result, Ok, Err, OnOk, refl, sym, ap, subst, ◌∙◌, append_assoc, append-nil}
use Rattle.std.{specs.List.list_all, proofs.lemmas.List.map-append}
use Rattle.mlt_script.{specs.declared.forms.LineForm.LineForm, specs.declared.forms.LineForm.TheVariants.Begins, specs.declared.forms.LineForm.TheVariants.Says, specs.declared.forms.LineForm.TheVariants.Closes, specs.declared.line.ScriptReading.ScriptReading, specs.declared.line.ScriptReading.TheVariants.Form, specs.declared.statement.Line.Line, specs.Blocks.Block, specs.Blocks.lines_of, specs.Blocks.Block.Nothing, specs.Blocks.Block.Then, specs.Blocks.Block.If, specs.LineTexts.line_text, specs.LineTexts.ending_text, specs.Ranges.FitsLine, specs.Readings.reading, specs.Scripts.ScriptForm, specs.Scripts.IsScript, specs.TreeLaws.regroup, proofs.Rereading.line_again, proofs.Rereading.line_printable, proofs.Rereading.begin_again, proofs.Rereading.ending_again}
use Rattle.mlt_script.specs.Again.{IsReadAs, IsReadAgain, AreReadAgain, second_lines, written, forms_of_script, IsScriptAgain, AreScriptsAgain}
use Rattle.mlt_script.specs.Grammar.{AreScripts, AreLawful, AreSpelled, IsSpelled, IsLawful, Spells, form_in, forms_of}
use Rattle.mlt_text_words.{specs.Lines.Raw, specs.Lines.lines, specs.Fronts.is_printable, proofs.Cutting.line_cut}
use Rattle.mlt_script.specs.Printing.{as_line, begin_text, second_part, block_text, script_text, scripts_text, shown}

pub reads_line : (t : List ℕ) (form : LineForm) → reading record { bytes = t; ended = true } ≡ Form form → list_all is_printable t ≡ true → IsReadAs (as_line t) (form ∷ [])
reads_line t form e h = λ rest.
    let raw : Raw = record { bytes = t; ended = true } in
    let c : lines (as_line t ++ rest) ≡ raw ∷ lines rest = ap lines (append_assoc t (10 ∷ []) rest) ∙ line_cut t rest h in
    (λ lawful. subst AreLawful (sym c) (subst IsLawful (sym e) tt, lawful), ap forms_of c ∙ ap (λ (r : ScriptReading). form_in r ++ forms_of (lines rest)) e)

pub reads_both : (t u : List ℕ) (fs gs : List LineForm) → IsReadAs t fs → IsReadAs u gs → IsReadAs (t ++ u) (fs ++ gs)
reads_both t u fs gs h k = λ rest.
    let a : (t ++ u) ++ rest ≡ t ++ (u ++ rest) = append_assoc t u rest in (
      λ lawful. subst (λ (xs : List ℕ). AreLawful (lines xs)) (sym a) ((h (u ++ rest)).0 ((k rest).0 lawful)),
      ap (λ (xs : List ℕ). forms_of (lines xs)) a ∙ (h (u ++ rest)).1 ∙ ap (λ (xs : List LineForm). fs ++ xs) (k rest).1 ∙ sym (append_assoc fs gs (forms_of (lines rest))),
    )

reads_nothing : IsReadAs [] []
reads_nothing = λ rest. (λ lawful. lawful, refl)

pub line_reads : (l : Line) → FitsLine l → IsReadAgain l
line_reads l h = reads_line (line_text l) (Says l) (line_again l h) (line_printable l h)

again_split : (xs ys : List Line) → AreReadAgain (xs ++ ys) → AreReadAgain xs × AreReadAgain ys
again_split [] ys h = (tt, h)
again_split (x ∷ xs) ys h = let k = again_split xs ys h.1 in ((h.0, k.0), k.1)

-- the second part of an if, with its else or without
reads_second : (b : Block) (t : List ℕ) (ls : List Line) → IsReadAgain Line.Else → IsReadAs t (map Says ls) → IsReadAs (second_part b t) (map Says (second_lines b ls))
reads_second Nothing t ls e h = reads_nothing
reads_second (Then s rest) t ls e h = reads_both (as_line (line_text Line.Else)) t (Says Line.Else ∷ []) (map Says ls) e h
reads_second (If a w first second rest) t ls e h = reads_both (as_line (line_text Line.Else)) t (Says Line.Else ∷ []) (map Says ls) e h

reads_block : (b : Block) → AreReadAgain (lines_of b) → IsReadAs (block_text b) (map Says (written b))
reads_block Nothing h = reads_nothing
reads_block (Then s rest) h = reads_both (as_line (line_text (Line.Plain s))) (block_text rest) (Says (Line.Plain s) ∷ []) (map Says (written rest)) h.0 (reads_block rest h.1)
reads_block (If a w first second rest) h =
    let one = again_split (lines_of first) (Line.Else ∷ (lines_of second ++ Line.End ∷ lines_of rest)) h.1 in
    let two = again_split (lines_of second) (Line.End ∷ lines_of rest) one.1.1 in
    let f = reads_block first one.0 in
    let s = reads_second second (block_text second) (written second) one.1.0 (reads_block second two.0) in
    let r = reads_both (as_line (line_text Line.End)) (block_text rest) (Says Line.End ∷ []) (map Says (written rest)) two.1.0 (reads_block rest two.1.1) in
    let more : List Line = second_lines second (written second) ++ Line.End ∷ written rest in
    let sr = reads_both (second_part second (block_text second)) (as_line (line_text Line.End) ++ block_text rest) (map Says (second_lines second (written second))) (Says Line.End ∷ map Says (written rest)) s r in
    let k : map Says (written first) ++ (map Says (second_lines second (written second)) ++ Says Line.End ∷ map Says (written rest)) ≡ map Says (written first ++ more) =
    ap (λ (fs : List LineForm). map Says (written first) ++ fs) (sym (map-append Says (second_lines second (written second)) (Line.End ∷ written rest))) ∙ sym (map-append Says (written first) more) in
    let fsr = reads_both (block_text first) (second_part second (block_text second) ++ (as_line (line_text Line.End) ++ block_text rest)) (map Says (written first))
    (map Says (second_lines second (written second)) ++ Says Line.End ∷ map Says (written rest)) f sr in
    reads_both (as_line (line_text (Line.If a w))) (block_text first ++ (second_part second (block_text second) ++ (as_line (line_text Line.End) ++ block_text rest))) (Says (Line.If a w) ∷ []) (map Says (written first ++ more)) h.0
    (subst (λ (fs : List LineForm). IsReadAs (block_text first ++ (second_part second (block_text second) ++ (as_line (line_text Line.End) ++ block_text rest))) fs) k fsr)

spelled : (b : Block) → IsSpelled b (written b)
spelled Nothing = refl
spelled (Then s rest) = (written rest, refl, spelled rest)
spelled (If a w first Nothing rest) = (written first, [], written rest, spelled first, refl, spelled rest, inr (refl, refl))
spelled (If a w first (Then s more) rest) = (written first, written (Then s more), written rest, spelled first, spelled (Then s more), spelled rest, inl refl)
spelled (If a w first (If b v one two more) rest) =
    (written first, written (If b v one two more), written rest, spelled first, spelled (If b v one two more), spelled rest, inl refl)

at_else : (b : Block) (tail : List Line) (after : List ℕ) → shown (lines_of b ++ Line.End ∷ tail) ≡ block_text b ++ after → shown (Line.Else ∷ (lines_of b ++ Line.End ∷ tail)) ≡ second_part b (block_text b) ++ after
at_else Nothing tail after h = h
at_else (Then s rest) tail after h =
    ap (λ (t : List ℕ). as_line (line_text Line.Else) ++ t) h ∙ sym (append_assoc (as_line (line_text Line.Else)) (block_text (Then s rest)) after)
at_else (If a w first second rest) tail after h =
    ap (λ (t : List ℕ). as_line (line_text Line.Else) ++ t) h ∙ sym (append_assoc (as_line (line_text Line.Else)) (block_text (If a w first second rest)) after)

shown_block : (b : Block) (more : List Line) → shown (lines_of b ++ more) ≡ block_text b ++ shown more
shown_block Nothing more = refl
shown_block (Then s rest) more =
    ap (λ (t : List ℕ). as_line (line_text (Line.Plain s)) ++ t) (shown_block rest more) ∙ sym (append_assoc (as_line (line_text (Line.Plain s))) (block_text rest) (shown more))
shown_block (If a w first second rest) more =
    let tail : List Line = lines_of rest ++ more in
    let end : List ℕ = as_line (line_text Line.End) in
    let head : List ℕ = as_line (line_text (Line.If a w)) in
    let other : List ℕ = second_part second (block_text second) in
    let e : shown (Line.End ∷ tail) ≡ (end ++ block_text rest) ++ shown more = ap (λ (t : List ℕ). end ++ t) (shown_block rest more) ∙ sym (append_assoc end (block_text rest) (shown more)) in
    let s : shown (Line.Else ∷ (lines_of second ++ Line.End ∷ tail)) ≡ (other ++ (end ++ block_text rest)) ++ shown more =
    at_else second tail (shown (Line.End ∷ tail)) (shown_block second (Line.End ∷ tail)) ∙ ap (λ (t : List ℕ). other ++ t) e ∙ sym (append_assoc other (end ++ block_text rest) (shown more)) in
    let f : shown (lines_of first ++ Line.Else ∷ (lines_of second ++ Line.End ∷ tail)) ≡ (block_text first ++ (other ++ (end ++ block_text rest))) ++ shown more =
    shown_block first (Line.Else ∷ (lines_of second ++ Line.End ∷ tail)) ∙ ap (λ (t : List ℕ). block_text first ++ t) s ∙ sym (append_assoc (block_text first) (other ++ (end ++ block_text rest)) (shown more)) in
    ap (λ (ls : List Line). head ++ shown ls) (regroup (lines_of first) (lines_of second) Line.Else Line.End (lines_of rest) more)
    ∙ ap (λ (t : List ℕ). head ++ t) f ∙ sym (append_assoc head (block_text first ++ (other ++ (end ++ block_text rest))) (shown more))

pub shown_whole : (b : Block) → shown (lines_of b) ≡ block_text b
shown_whole b = ap shown (sym (append-nil (lines_of b))) ∙ shown_block b [] ∙ append-nil (block_text b)

-- a script's text is the script
pub script_again : (s : ScriptForm) → IsScript s → AreReadAgain (lines_of s.block) → IsScriptAgain s
script_again s h k =
    let b = begin_again s.client h.0 in
    let e = ending_again s.ending in
    let be = reads_line (begin_text s.client) (Begins s.client) b.0 b.1 in
    let en = reads_line (ending_text s.ending) (Closes s.ending) e.0 e.1 in (
      h,
      reads_both (as_line (begin_text s.client)) (block_text s.block ++ as_line (ending_text s.ending)) (Begins s.client ∷ []) (map Says (written s.block) ++ Closes s.ending ∷ []) be
          (reads_both (block_text s.block) (as_line (ending_text s.ending)) (map Says (written s.block)) (Closes s.ending ∷ []) (reads_block s.block k) en),
    )

pub no_lines : lines [] ≡ []
unfolding lines
no_lines = refl

-- scripts one after the other
parts : (scripts : List ScriptForm) → AreScriptsAgain scripts → AreScripts scripts × AreLawful (lines (scripts_text scripts)) × AreSpelled scripts (forms_of (lines (scripts_text scripts)))
parts [] h = (tt, subst AreLawful (sym no_lines) tt, ap forms_of no_lines)
parts (s ∷ scripts) h =
    let p = parts scripts h.1 in
    let r = h.0.1 (scripts_text scripts) in
    ((h.0.0, p.0), r.0 p.1, (forms_of_script s, forms_of (lines (scripts_text scripts)), (written s.block, spelled s.block, refl), p.2, r.1))

pub spells : (scripts : List ScriptForm) → AreScriptsAgain scripts → Spells (scripts_text scripts) scripts
spells scripts h = let p = parts scripts h in (p.0, p.1, p.2)

-- one script more
pub again_more : (scripts : List ScriptForm) (s : ScriptForm) → AreScriptsAgain scripts → IsScriptAgain s → AreScriptsAgain (scripts ++ s ∷ [])
again_more [] s h k = (k, tt)
again_more (x ∷ scripts) s h k = (h.0, again_more scripts s h.1 k)

texts_more : (scripts : List ScriptForm) (s : ScriptForm) → scripts_text (scripts ++ s ∷ []) ≡ scripts_text scripts ++ script_text s
texts_more [] s = append-nil (script_text s)
texts_more (x ∷ scripts) s = ap (λ (t : List ℕ). script_text x ++ t) (texts_more scripts s) ∙ sym (append_assoc (script_text x) (scripts_text scripts) (script_text s))

pub text_more : (scripts : List ScriptForm) (s : ScriptForm) (old new : List ℕ) → old ≡ scripts_text scripts → new ≡ old ++ script_text s → new ≡ scripts_text (scripts ++ s ∷ [])
text_more scripts s old new e f = f ∙ ap (λ (t : List ℕ). t ++ script_text s) e ∙ sym (texts_more scripts s)

-- the three pieces of a script's text
pub script_joined : (old begin lines end one two three : List ℕ) → one ≡ old ++ begin → two ≡ one ++ lines → three ≡ two ++ end → three ≡ old ++ (begin ++ (lines ++ end))
script_joined old begin lines end one two three e f g =
    g ∙ ap (λ (t : List ℕ). t ++ end) (f ∙ ap (λ (t : List ℕ). t ++ lines) e)
    ∙ append_assoc (old ++ begin) lines end ∙ append_assoc old begin (lines ++ end)

pub on_ok : {T E : Type 0} (r : Result T E) (P Q : Type 0) → (P → Q) → OnOk r P → OnOk r Q
on_ok (Ok x) P Q f p = f p
on_ok (Err e) P Q f p = tt

pub on_any : {T E : Type 0} (r : Result T E) (P : Type 0) → P → OnOk r P
on_any (Ok x) P p = p
on_any (Err e) P p = tt
