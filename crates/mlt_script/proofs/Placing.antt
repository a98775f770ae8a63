-- Lines of a script, one more at a time.
use Rattle.std.proofs.Common.{◌≡◌, ℕ, ◌+◌, ◌≤◌, ◌<◌, max, List, [], ◌∷◌, ◌++◌, length, reverse, ltb, Bool, true, false, cond, Option, Some, None, refl, sym, ap, subst, ◌∙◌, append_assoc, arith, lt-ltb, le-ltb, ltb-true}
use Rattle.mlt_script.proofs.Names.{reverse-append, ScriptCause, Frame, Asking, Wanted, Statement, Line, Block, Open, join, grow, longest, nesting, path, depth, widest, deepest, Nothing, Then, If, Top, InFirst, InSecond, line_fault, open_of, one_more, whole}
use Rattle.mlt_types.specs.declared.refusal.ScriptCause.TheVariants.{Place, Deep, Long}
use Rattle.mlt_script.specs.{Blocks.lines_of, Blocks.lines_open, Frames.frames_of, Scan.long_fault, Scan.else_fault, Scan.end_fault, Scripts.read_on, Scripts.turned, Scripts.closed}

lines_join : (b c : Block) → lines_of (join b c) ≡ lines_of b ++ lines_of c
lines_join Nothing c = refl
lines_join (Then s rest) c = ap (λ (ls : List Line). Line.Plain s ∷ ls) (lines_join rest c)
lines_join (If a w first second rest) c =
    let e : Line.End ∷ lines_of (join rest c) ≡ (Line.End ∷ lines_of rest) ++ lines_of c = ap (λ (ls : List Line). Line.End ∷ ls) (lines_join rest c) in
    ap (λ (ls : List Line). Line.If a w ∷ (lines_of first ++ Line.Else ∷ (lines_of second ++ ls))) e
    ∙ ap (λ (ls : List Line). Line.If a w ∷ (lines_of first ++ Line.Else ∷ ls)) (sym (append_assoc (lines_of second) (Line.End ∷ lines_of rest) (lines_of c)))
    ∙ ap (λ (ls : List Line). Line.If a w ∷ ls) (sym (append_assoc (lines_of first) (Line.Else ∷ (lines_of second ++ Line.End ∷ lines_of rest)) (lines_of c)))

longest_join : (b c : Block) → longest (join b c) ≡ longest b + longest c
longest_join Nothing c = omega arith
longest_join (Then s rest) c = let h = longest_join rest c in omega (arith, h)
longest_join (If a w first second rest) c = let h = longest_join rest c in omega (arith, h)

nesting_join : (b c : Block) → nesting (join b c) ≡ max (nesting b) (nesting c)
nesting_join Nothing c = omega arith
nesting_join (Then s rest) c = nesting_join rest c
nesting_join (If a w first second rest) c = let h = nesting_join rest c in omega (arith, h)

pub lines_grow : (o : Open) (b : Block) → lines_open (grow o b) ≡ lines_open o ++ lines_of b
lines_grow (Top b) c = lines_join b c
lines_grow (InFirst o a w first) c =
    ap (λ (ls : List Line). lines_open o ++ Line.If a w ∷ ls) (lines_join first c) ∙ sym (append_assoc (lines_open o) (Line.If a w ∷ lines_of first) (lines_of c))
lines_grow (InSecond o a w first second) c =
    ap (λ (ls : List Line). lines_open o ++ Line.If a w ∷ (lines_of first ++ Line.Else ∷ ls)) (lines_join second c)
    ∙ ap (λ (ls : List Line). lines_open o ++ Line.If a w ∷ ls) (sym (append_assoc (lines_of first) (Line.Else ∷ lines_of second) (lines_of c)))
    ∙ sym (append_assoc (lines_open o) (Line.If a w ∷ (lines_of first ++ Line.Else ∷ lines_of second)) (lines_of c))

pub path_grow : (o : Open) (b : Block) → path (grow o b) ≡ path o + longest b
path_grow (Top b) c = longest_join b c
path_grow (InFirst o a w first) c = let h = longest_join first c in omega (arith, h)
path_grow (InSecond o a w first second) c = let h = longest_join second c in omega (arith, h)

pub depth_grow : (o : Open) (b : Block) → depth (grow o b) ≡ depth o
depth_grow (Top b) c = refl
depth_grow (InFirst o a w first) c = refl
depth_grow (InSecond o a w first second) c = refl

frames_grow : (o : Open) (b : Block) → frames_of (grow o b) ≡ frames_of o
frames_grow (Top b) c = refl
frames_grow (InFirst o a w first) c = refl
frames_grow (InSecond o a w first second) c = refl

pub path_widest : (o : Open) → path o ≤ widest o
path_widest (Top b) = omega arith
path_widest (InFirst o a w first) = omega arith
path_widest (InSecond o a w first second) = omega arith

pub widest_grow : (o : Open) (b : Block) → widest (grow o b) ≡ max (widest o) (path o + longest b)
widest_grow (Top b) c = let h = longest_join b c in omega (arith, h)
widest_grow (InFirst o a w first) c = let h = longest_join first c in omega (arith, h)
widest_grow (InSecond o a w first second) c = let h = longest_join second c in omega (arith, h)

pub depth_deepest : (o : Open) → depth o ≤ deepest o
depth_deepest (Top b) = omega arith
depth_deepest (InFirst o a w first) = omega arith
depth_deepest (InSecond o a w first second) = omega arith

pub deepest_grow : (o : Open) (b : Block) → deepest (grow o b) ≡ max (deepest o) (depth o + nesting b)
deepest_grow (Top b) c = let h = nesting_join b c in omega (arith, h)
deepest_grow (InFirst o a w first) c = let h = nesting_join first c in omega (arith, h)
deepest_grow (InSecond o a w first second) c = let h = nesting_join second c in omega (arith, h)

pub length_frames : (o : Open) → length (frames_of o) ≡ depth o
length_frames (Top b) = refl
length_frames (InFirst o a w first) = let h = length_frames o in omega (arith, h)
length_frames (InSecond o a w first second) = let h = length_frames o in omega (arith, h)

-- What a script that is read up to somewhere keeps of it: its lines, the longest path, the open ifs; all within the limits.
abbrev pub Sits : Open → List Line → ℕ → List Frame → Type 0
Sits o ls n fs = (lines_open o ≡ ls) × (path o ≡ n) × (frames_of o ≡ fs) × (widest o ≤ 256) × (deepest o ≤ 16)

pub sits_plain : (o : Open) (ls : List Line) (n : ℕ) (fs : List Frame) (s : Statement) → n < 256 → Sits o ls n fs → Sits (grow o (Then s Nothing)) (ls ++ Line.Plain s ∷ []) (n + 1) fs
sits_plain o ls n fs s l h = (
  lines_grow o (Then s Nothing) ∙ ap (λ (xs : List Line). xs ++ Line.Plain s ∷ []) h.0,
  (let p = path_grow o (Then s Nothing) in let q = h.1 in omega (arith, p, q)),
  frames_grow o (Then s Nothing) ∙ h.2,
  (let p = widest_grow o (Then s Nothing) in let q = h.1 in let r = h.3 in omega (arith, p, q, r, l)),
  (let p = deepest_grow o (Then s Nothing) in let q = depth_deepest o in let r = h.4 in omega (arith, p, q, r)),
)

pub sits_if : (o : Open) (ls : List Line) (n : ℕ) (fs : List Frame) (a : Asking) (w : Wanted) → n < 256 → length fs < 16 → Sits o ls n fs
    → Sits (InFirst o a w Nothing) (ls ++ Line.If a w ∷ []) (n + 1) (record { other = n + 1; turned = false } ∷ fs)
sits_if o ls n fs a w l d h =
    let deep : depth o < 16 = let e = length_frames o in let k = ap (λ (xs : List Frame). length xs) h.2 in omega (arith, d, e, k) in (
      ap (λ (xs : List Line). xs ++ Line.If a w ∷ []) h.0,
      (let q = h.1 in omega (arith, q)),
      ap (λ (k : ℕ). record { other = k + 1; turned = false } ∷ frames_of o) h.1 ∙ ap (λ (xs : List Frame). record { other = n + 1; turned = false } ∷ xs) h.2,
      (let q = h.1 in let r = h.3 in omega (arith, q, r, l)),
      (let r = h.4 in omega (arith, r, deep)),
    )

head_is : (f g : Frame) (fs gs : List Frame) → f ∷ fs ≡ g ∷ gs → f ≡ g
head_is f g fs gs e = cc

tail_is : (f g : Frame) (fs gs : List Frame) → f ∷ fs ≡ g ∷ gs → fs ≡ gs
tail_is f g fs gs e = cc

no_frame : (f : Frame) (fs : List Frame) → [] ≡ f ∷ fs → ⊥
no_frame f fs e = cc

unlike : (b : Bool) → true ≡ b → b ≡ false → ⊥
unlike b h k = let e : true ≡ false = h ∙ k in cc e

unlike_too : (b : Bool) → false ≡ b → b ≡ true → ⊥
unlike_too b h k = let e : false ≡ true = h ∙ k in cc e

-- at the else of the innermost if, which had none
pub sits_else : (o : Open) (ls : List Line) (n : ℕ) (f : Frame) (fs : List Frame) → f.turned ≡ false → Sits o ls n (f ∷ fs)
    → Sits (turned o) (ls ++ Line.Else ∷ []) f.other (record { other = n; turned = true } ∷ fs)
sits_else (Top b) ls n f fs t h = absurd (no_frame f fs h.2)
sits_else (InSecond o a w first second) ls n f fs t h = absurd (unlike f.turned (ap (λ (f : Frame). f.turned) (head_is _ f _ fs h.2)) t)
sits_else (InFirst o a w first) ls n f fs t h =
    let head = head_is (record { other = path o + 1; turned = false }) f (frames_of o) fs h.2 in
    let other : path o + 1 ≡ f.other = ap (λ (f : Frame). f.other) head in (
      sym (append_assoc (lines_open o) (Line.If a w ∷ lines_of first) (Line.Else ∷ [])) ∙ ap (λ (xs : List Line). xs ++ Line.Else ∷ []) h.0,
      (omega (arith, other)),
      ap (λ (k : ℕ). record { other = k; turned = true } ∷ frames_of o) h.1
          ∙ ap (λ (xs : List Frame). record { other = n; turned = true } ∷ xs) (tail_is (record { other = path o + 1; turned = false }) f (frames_of o) fs h.2),
      (let r = h.3 in omega (arith, r)),
      (let r = h.4 in omega (arith, r)),
    )

-- at the end of the innermost if, which had an else
pub sits_end : (o : Open) (ls : List Line) (n : ℕ) (f : Frame) (fs : List Frame) → f.turned ≡ true → Sits o ls n (f ∷ fs)
    → Sits (closed o) (ls ++ Line.End ∷ []) (max n f.other) fs
sits_end (Top b) ls n f fs t h = absurd (no_frame f fs h.2)
sits_end (InFirst o a w first) ls n f fs t h = absurd (unlike_too f.turned (ap (λ (f : Frame). f.turned) (head_is _ f _ fs h.2)) t)
sits_end (InSecond o a w first second) ls n f fs t h =
    let b : Block = If a w first second Nothing in
    let other : path o + 1 + longest first ≡ f.other = ap (λ (f : Frame). f.other) (head_is (record { other = path o + 1 + longest first; turned = true }) f (frames_of o) fs h.2) in
    let xs : List Line = Line.If a w ∷ (lines_of first ++ Line.Else ∷ lines_of second) in
    let e : lines_open o ++ lines_of b ≡ (lines_open o ++ xs) ++ Line.End ∷ [] =
    ap (λ (ys : List Line). lines_open o ++ Line.If a w ∷ ys) (sym (append_assoc (lines_of first) (Line.Else ∷ lines_of second) (Line.End ∷ []))) ∙ sym (append_assoc (lines_open o) xs (Line.End ∷ [])) in (
      lines_grow o b ∙ e ∙ ap (λ (ys : List Line). ys ++ Line.End ∷ []) h.0,
      (let p = path_grow o b in let q = h.1 in omega (arith, p, q, other)),
      frames_grow o b ∙ tail_is (record { other = path o + 1 + longest first; turned = true }) f (frames_of o) fs h.2,
      (let p = widest_grow o b in let q = path_widest o in let r = h.3 in omega (arith, p, q, r)),
      (let p = deepest_grow o b in let q = depth_deepest o in let r = h.4 in omega (arith, p, q, r)),
    )

-- at the end of the innermost if, which had no else: the lines get one
turned_closed : (o : Open) (f : Frame) (fs : List Frame) → f.turned ≡ false → frames_of o ≡ f ∷ fs → closed (turned o) ≡ closed o
turned_closed (Top b) f fs t h = absurd (no_frame f fs h)
turned_closed (InFirst o a w first) f fs t h = refl
turned_closed (InSecond o a w first second) f fs t h = absurd (unlike f.turned (ap (λ (f : Frame). f.turned) (head_is _ f _ fs h)) t)

max_swap : (n m : ℕ) → max n m ≡ max m n
max_swap n m = omega arith

pub sits_end_first : (o : Open) (ls : List Line) (n : ℕ) (f : Frame) (fs : List Frame) → f.turned ≡ false → Sits o ls n (f ∷ fs)
    → Sits (closed o) ((ls ++ Line.Else ∷ []) ++ Line.End ∷ []) (max n f.other) fs
sits_end_first o ls n f fs t h =
    let e = turned_closed o f fs t h.2 in
    let k = sits_end (turned o) (ls ++ Line.Else ∷ []) f.other (record { other = n; turned = true }) fs refl (sits_else o ls n f fs t h) in
    subst (λ (m : ℕ). Sits (closed o) ((ls ++ Line.Else ∷ []) ++ Line.End ∷ []) m fs) (max_swap f.other n)
    (subst (λ (p : Open). Sits p ((ls ++ Line.Else ∷ []) ++ Line.End ∷ []) (max f.other n) fs) e k)

read_append : (o : Open) (xs ys : List Line) → read_on o (xs ++ ys) ≡ read_on (read_on o xs) ys
read_append o [] ys = refl
read_append o (x ∷ xs) ys = read_append (one_more o x) xs ys

pub open_more : (ls : List Line) (l : Line) → open_of (ls ++ l ∷ []) ≡ one_more (open_of ls) l
open_more ls l = read_append (Top Nothing) ls (l ∷ [])

pub open_end : (ls : List Line) (f : Frame) (fs : List Frame) → f.turned ≡ false → frames_of (open_of ls) ≡ f ∷ fs
    → open_of ((ls ++ Line.Else ∷ []) ++ Line.End ∷ []) ≡ one_more (open_of ls) Line.End
open_end ls f fs t h =
    open_more (ls ++ Line.Else ∷ []) Line.End ∙ ap closed (open_more ls Line.Else) ∙ turned_closed (open_of ls) f fs t h

-- outside each if
pub at_top : (o : Open) (ls : List Line) (n : ℕ) → Sits o ls n [] → (o ≡ Top (whole o)) × (lines_of (whole o) ≡ ls) × (longest (whole o) ≤ 256) × (nesting (whole o) ≤ 16)
at_top (Top b) ls n h = (refl, h.0, h.3, h.4)
at_top (InFirst o a w first) ls n h = absurd (no_frame _ _ (sym h.2))
at_top (InSecond o a w first second) ls n h = absurd (no_frame _ _ (sym h.2))

-- whether an else may stand here, by the innermost if
abbrev pub else_by : List Frame → Option ScriptCause
else_by [] = Some Place
else_by (f ∷ fs) = cond f.turned (Some Place) None

pub else_is : (o : Open) → else_fault o ≡ else_by (frames_of o)
else_is (Top b) = refl
else_is (InFirst o a w first) = refl
else_is (InSecond o a w first second) = refl

-- no line is long where the longest path is shorter
pub not_long : (o : Open) → long_fault o ≡ None → path o < 256
not_long o h = by_test (path o) (ltb (path o) 256) refl h where
  by_test : (n : ℕ) (b : Bool) → ltb n 256 ≡ b → cond b None (Some Long) ≡ None → n < 256
  by_test n true e k = ltb-true n 256 e
  by_test n false e k = absurd (cc k)

not_deep_by : (n m : ℕ) (a b : Bool) → ltb n 16 ≡ a → ltb m 256 ≡ b → cond a (cond b None (Some Long)) (Some Deep) ≡ None → (n < 16) × (m < 256)
not_deep_by n m true true d l h = (ltb-true n 16 d, ltb-true m 256 l)
not_deep_by n m true false d l h = absurd (cc h)
not_deep_by n m false b d l h = absurd (cc h)

pub not_deep : (o : Open) (a : Asking) (w : Wanted) → line_fault o (Line.If a w) ≡ None → (depth o < 16) × (path o < 256)
not_deep o a w h = not_deep_by (depth o) (path o) (ltb (depth o) 16) (ltb (path o) 256) refl refl h

-- lines that are read up to somewhere, with what is kept of them
abbrev pub Kept : List Line → ℕ → List Frame → Type 0
Kept ls n fs = Sits (open_of ls) ls n fs

pub kept_plain : (ls items : List Line) (n : ℕ) (fs : List Frame) (s : Statement) → items ≡ ls ++ Line.Plain s ∷ [] → line_fault (open_of ls) (Line.Plain s) ≡ None → Kept ls n fs
    → Kept items (n + 1) fs × (open_of items ≡ one_more (open_of ls) (Line.Plain s))
kept_plain ls items n fs s e f h =
    let o : open_of items ≡ one_more (open_of ls) (Line.Plain s) = ap open_of e ∙ open_more ls (Line.Plain s) in
    let l : n < 256 = let k = not_long (open_of ls) f in let p = h.1 in omega (arith, k, p) in
    let k = sits_plain (open_of ls) ls n fs s l h in
    (subst (λ (p : Open). Sits p items (n + 1) fs) (sym o) (subst (λ (xs : List Line). Sits (grow (open_of ls) (Then s Nothing)) xs (n + 1) fs) (sym e) k), o)

pub kept_if : (ls items : List Line) (n : ℕ) (fs gs : List Frame) (a : Asking) (w : Wanted) → items ≡ ls ++ Line.If a w ∷ [] → gs ≡ record { other = n + 1; turned = false } ∷ fs
    → line_fault (open_of ls) (Line.If a w) ≡ None → Kept ls n fs → Kept items (n + 1) gs × (open_of items ≡ one_more (open_of ls) (Line.If a w))
kept_if ls items n fs gs a w e g f h =
    let o : open_of items ≡ one_more (open_of ls) (Line.If a w) = ap open_of e ∙ open_more ls (Line.If a w) in
    let both = not_deep (open_of ls) a w f in
    let l : n < 256 = let k = both.1 in let p = h.1 in omega (arith, k, p) in
    let d : length fs < 16 = let k = both.0 in let p = length_frames (open_of ls) in let q = ap (λ (xs : List Frame). length xs) h.2 in omega (arith, k, p, q) in
    let k = sits_if (open_of ls) ls n fs a w l d h in (
      subst (λ (hs : List Frame). Sits (open_of items) items (n + 1) hs) (sym g)
          (subst (λ (p : Open). Sits p items (n + 1) (record { other = n + 1; turned = false } ∷ fs)) (sym o)
          (subst (λ (xs : List Line). Sits (InFirst (open_of ls) a w Nothing) xs (n + 1) (record { other = n + 1; turned = false } ∷ fs)) (sym e) k)),
      o,
    )

turned_by : (f : Frame) (b : Bool) → f.turned ≡ b → cond b (Some Place) None ≡ None → f.turned ≡ false
turned_by f true e h = absurd (cc h)
turned_by f false e h = e

not_turned : (o : Open) (f : Frame) (fs : List Frame) → frames_of o ≡ f ∷ fs → else_fault o ≡ None → f.turned ≡ false
not_turned o f fs e h =
    let k : else_by (f ∷ fs) ≡ None = ap else_by (sym e) ∙ sym (else_is o) ∙ h in
    turned_by f f.turned refl k

pub kept_else : (ls items : List Line) (n : ℕ) (f : Frame) (left popped pushed : List Frame) → items ≡ ls ++ Line.Else ∷ [] → popped ≡ left ++ f ∷ [] → pushed ≡ left ++ record { other = n; turned = true } ∷ []
    → line_fault (open_of ls) Line.Else ≡ None → Kept ls n (reverse popped) → Kept items f.other (reverse pushed) × (open_of items ≡ one_more (open_of ls) Line.Else)
kept_else ls items n f left popped pushed e p q c h =
    let fs = reverse left in
    let next : Frame = record { other = n; turned = true } in
    let k : reverse popped ≡ f ∷ fs = ap reverse p ∙ reverse-append left (f ∷ []) in
    let g : reverse pushed ≡ next ∷ fs = ap reverse q ∙ reverse-append left (next ∷ []) in
    let o : open_of items ≡ one_more (open_of ls) Line.Else = ap open_of e ∙ open_more ls Line.Else in
    let t : f.turned ≡ false = not_turned (open_of ls) f fs (h.2 ∙ k) c in
    let s = sits_else (open_of ls) ls n f fs t (subst (λ (xs : List Frame). Sits (open_of ls) ls n xs) k h) in (
      subst (λ (xs : List Frame). Sits (open_of items) items f.other xs) (sym g)
          (subst (λ (p : Open). Sits p items f.other (next ∷ fs)) (sym o)
          (subst (λ (xs : List Line). Sits (turned (open_of ls)) xs f.other (next ∷ fs)) (sym e) s)),
      o,
    )

pub kept_end : (ls items : List Line) (n m : ℕ) (f : Frame) (fs hs : List Frame) → items ≡ ls ++ Line.End ∷ [] → hs ≡ f ∷ fs → f.turned ≡ true → m ≡ max n f.other
    → Kept ls n hs → Kept items m fs × (open_of items ≡ one_more (open_of ls) Line.End)
kept_end ls items n m f fs hs e k t c h =
    let o : open_of items ≡ one_more (open_of ls) Line.End = ap open_of e ∙ open_more ls Line.End in
    let s = sits_end (open_of ls) ls n f fs t (subst (λ (xs : List Frame). Sits (open_of ls) ls n xs) k h) in (
      subst (λ (j : ℕ). Sits (open_of items) items j fs) (sym c)
          (subst (λ (p : Open). Sits p items (max n f.other) fs) (sym o) (subst (λ (xs : List Line). Sits (closed (open_of ls)) xs (max n f.other) fs) (sym e) s)),
      o,
    )

pub kept_end_first : (ls items : List Line) (n m : ℕ) (f : Frame) (fs hs : List Frame) → items ≡ (ls ++ Line.Else ∷ []) ++ Line.End ∷ [] → hs ≡ f ∷ fs → f.turned ≡ false → m ≡ max n f.other
    → Kept ls n hs → Kept items m fs × (open_of items ≡ one_more (open_of ls) Line.End)
kept_end_first ls items n m f fs hs e k t c h =
    let o : open_of items ≡ one_more (open_of ls) Line.End = ap open_of e ∙ open_end ls f fs t (h.2 ∙ k) in
    let s = sits_end_first (open_of ls) ls n f fs t (subst (λ (xs : List Frame). Sits (open_of ls) ls n xs) k h) in (
      subst (λ (j : ℕ). Sits (open_of items) items j fs) (sym c)
          (subst (λ (p : Open). Sits p items (max n f.other) fs) (sym o) (subst (λ (xs : List Line). Sits (closed (open_of ls)) xs (max n f.other) fs) (sym e) s)),
      o,
    )

-- whether an if may stand here, by the number of open ifs
pub deep_here : (ls : List Line) (fs : List Frame) (a : Asking) (w : Wanted) → frames_of (open_of ls) ≡ fs → 16 ≤ length fs → Some Deep ≡ line_fault (open_of ls) (Line.If a w)
deep_here ls fs a w e l =
    let d : 16 ≤ depth (open_of ls) = let p = length_frames (open_of ls) in let q = ap (λ (xs : List Frame). length xs) e in omega (arith, l, p, q) in
    rw (le-ltb (depth (open_of ls)) 16 d) refl

pub not_deep_here : (ls : List Line) (fs : List Frame) (a : Asking) (w : Wanted) → frames_of (open_of ls) ≡ fs → length fs < 16 → long_fault (open_of ls) ≡ line_fault (open_of ls) (Line.If a w)
not_deep_here ls fs a w e l =
    let d : depth (open_of ls) < 16 = let p = length_frames (open_of ls) in let q = ap (λ (xs : List Frame). length xs) e in omega (arith, l, p, q) in
    rw (lt-ltb (depth (open_of ls)) 16 d) refl
