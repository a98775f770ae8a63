-- The lines of a tree are read as that tree, so that lines can stand for it.
use Rattle.std.specs.Prelude.{◌≡◌, ℕ, List, [], ◌∷◌, ◌++◌, refl}
use Rattle.std.proofs.Common.{sym, ap, ◌∙◌, append_assoc}
use Rattle.std.proofs.lemmas.List.{append-nil}
use Rattle.std.specs.Coded.{Coded, code_by, coded_ℕ, coded_list, coded×}
use Rattle.mlt_script.specs.{declared.statement.Line.Line, declared.statement.Ending.Ending, Blocks.Block.Nothing, Blocks.Block.Then, Blocks.Block.If, Blocks.Open.Top, Blocks.Open.InFirst, Blocks.Open.InSecond, Scripts.ScriptForm, Scripts.read_on, Scripts.whole, Scripts.tree_of}
use Rattle.mlt_script.specs.contracts.statement.Line as line_row
use Rattle.mlt_script.specs.contracts.statement.Ending as ending_row
use Rattle.mlt_script.specs.Blocks.{Block, Open, join, grow, lines_of}

pub join_nothing : (b : Block) → join b Nothing ≡ b
join_nothing Nothing = refl
join_nothing (Then s rest) = ap (Then s) (join_nothing rest)
join_nothing (If a w first second rest) = ap (If a w first second) (join_nothing rest)

pub join_assoc : (b c d : Block) → join (join b c) d ≡ join b (join c d)
join_assoc Nothing c d = refl
join_assoc (Then s rest) c d = ap (Then s) (join_assoc rest c d)
join_assoc (If a w first second rest) c d = ap (If a w first second) (join_assoc rest c d)

pub grow_nothing : (o : Open) → grow o Nothing ≡ o
grow_nothing (Top b) = ap Top (join_nothing b)
grow_nothing (InFirst o a w first) = ap (InFirst o a w) (join_nothing first)
grow_nothing (InSecond o a w first second) = ap (InSecond o a w first) (join_nothing second)

pub grow_twice : (o : Open) (b c : Block) → grow (grow o b) c ≡ grow o (join b c)
grow_twice (Top b) c d = ap Top (join_assoc b c d)
grow_twice (InFirst o a w first) c d = ap (InFirst o a w) (join_assoc first c d)
grow_twice (InSecond o a w first second) c d = ap (InSecond o a w first) (join_assoc second c d)

pub regroup : (first second : List Line) (e f : Line) (rest more : List Line)
    → (first ++ e ∷ (second ++ f ∷ rest)) ++ more ≡ first ++ e ∷ (second ++ f ∷ (rest ++ more))
regroup first second e f rest more =
    append_assoc first (e ∷ (second ++ f ∷ rest)) more
    ∙ ap (λ (xs : List Line). first ++ e ∷ xs) (append_assoc second (f ∷ rest) more)

-- the lines of a block are read as that block
pub reads_block : (b : Block) (more : List Line) (o : Open) → read_on o (lines_of b ++ more) ≡ read_on (grow o b) more
reads_block Nothing more o = ap (λ (o : Open). read_on o more) (sym (grow_nothing o))
reads_block (Then s rest) more o =
    reads_block rest more (grow o (Then s Nothing))
    ∙ ap (λ (o : Open). read_on o more) (grow_twice o (Then s Nothing) rest)
reads_block (If a w first second rest) more o =
    let tail : List Line = Line.End ∷ (lines_of rest ++ more) in
    ap (λ (xs : List Line). read_on (InFirst o a w Nothing) xs)
    (regroup (lines_of first) (lines_of second) Line.Else Line.End (lines_of rest) more)
    ∙ reads_block first (Line.Else ∷ (lines_of second ++ tail)) (InFirst o a w Nothing)
    ∙ reads_block second tail (InSecond o a w first Nothing)
    ∙ reads_block rest more (grow o (If a w first second Nothing))
    ∙ ap (λ (o : Open). read_on o more) (grow_twice o (If a w first second Nothing) rest)

pub reads_back : (b : Block) → tree_of (lines_of b) ≡ b
unfolding tree_of
reads_back b =
    ap (λ (ls : List Line). whole (read_on (Top Nothing) ls)) (sym (append-nil (lines_of b)))
    ∙ ap whole (reads_block b [] (Top Nothing))

-- a script is stored as its client, its lines and its ending
abbrev pub coded_script : Coded ScriptForm
coded_script =
    code_by (ℕ × (List Line × Ending))
    (coded× coded_ℕ (coded× (coded_list line_row.the_row.coded) ending_row.the_row.coded))
    (λ s. (s.client, (lines_of s.block, s.ending)))
    (λ p. record { client = p.0; block = tree_of p.1.0; ending = p.1.1 })
    (λ s. ap (λ (b : Block). record { client = s.client; block = b; ending = s.ending }) (reads_back s.block))
