-- Operations and lines of a plain form, as they are read in the general way.
use Rattle.std.proofs.Common.{◌≡◌, ℕ, ◌^◌, ◌<◌, List, [], ◌∷◌, ◌++◌, length, true, false, Option, Some, None, IfSome, option_and_then, refl, sym, ap, ◌∙◌, append_assoc, length-append, arith, lt-ltb, append-nil}
use denote.Ref.{Bor}
use Rattle.mlt_object_kinds.specs.declared.operation.{ObjOp.ObjOp, ObjReply.ObjReply}
use Rattle.mlt_script.proofs.Names.{LineForm, Begins, Says, Closes, Asking, Commit, Ask, Line, Keyword, Word, Key, Number, TextIs, is_comment, number_at}
use Rattle.mlt_script.{specs.Amounts.with_amount, specs.declared.statement.AmountOp.AmountOp, specs.declared.statement.Asking.TheVariants.Fixed, specs.declared.statement.Asking.TheVariants.By, specs.Plain.BeginsWithForm, specs.Plain.BeginsWithOp, specs.Plain.BeginsWithReply, specs.Plain.GoesOnWithOp, proofs.Saying.says_so}
use Rattle.mlt_text_words.{specs.Fronts.BeginsWithWords, specs.Lines.lines, specs.Words.spelling, proofs.Cutting.line_cut, proofs.Fronts.no_comment, proofs.Fronts.words_then, proofs.Pieces.at_most, proofs.Pieces.beside, proofs.Pieces.key_text}
use Rattle.mlt_script.specs.Forms.{asking_at, asking_of, ask_form, element_op, fixed, form_of, key_form, op_at, op_of_amount, op_of_element, op_of_one, key_at, number_below, amount_at, begin_form, reply_at, reply_after, reply_word}

-- ---- the words of an operation

-- one number
pub of_one : (k : Keyword) (text rest : List ℕ) (n : ℕ) (op : ObjOp) → BeginsWithWords text (Number n ∷ []) 20 rest → Some op ≡ op_of_one k n → GoesOnWithOp k text op rest
unfolding asking_at
of_one k text rest n op (t, is, h) e = (Number n ∷ [], (t, is, at_most t (Number n ∷ []) 20 41 (omega arith) h), λ more. rw (sym e) refl)

-- two numbers with a space between them
two : (text first middle rest : List ℕ) (n m : ℕ) → BeginsWithWords text (Number n ∷ []) 20 first → first ≡ 32 ∷ middle → BeginsWithWords middle (Number m ∷ []) 20 rest
    → BeginsWithWords text (Number n ∷ Number m ∷ []) 41 rest
two text first middle rest n m (t, is, h) e k =
    words_then text middle rest (Number n ∷ []) (Number m ∷ []) 20 20 (t, is ∙ ap (λ (xs : List ℕ). t ++ xs) e, h) k

module _ (k : Keyword) (text first middle rest : List ℕ) (n m : ℕ) (before : BeginsWithWords text (Number n ∷ []) 20 first) (space : first ≡ 32 ∷ middle)
    (behind : BeginsWithWords middle (Number m ∷ []) 20 rest) (more_than_one : None ≡ op_of_one k n) where
  pub of_amount : (op : AmountOp) → Some op ≡ op_of_amount k n → GoesOnWithOp k text (with_amount op m) rest
  unfolding asking_at amount_at
  of_amount op e = (Number n ∷ Number m ∷ [], two text first middle rest n m before space behind, λ more. rw (sym more_than_one, sym e) refl)

  pub of_element : (op : ObjOp) → None ≡ op_of_amount k n → Some op ≡ op_of_element k n m → GoesOnWithOp k text op rest
  unfolding asking_at
  of_element op no_amount e = (Number n ∷ Number m ∷ [], two text first middle rest n m before space behind, λ more. rw (sym more_than_one, sym no_amount, sym e) refl)

-- ---- an operation and its line

-- behind a keyword and a space
op_first : (k : Keyword) (text middle rest : List ℕ) (op : ObjOp) → text ≡ spelling k ++ 32 ∷ middle → GoesOnWithOp k middle op rest → BeginsWithOp text op rest
unfolding op_at key_at
op_first k text middle rest op e (words, (t, is, h), f) = (
  spelling k ++ 32 ∷ t,
  Key k ∷ words,
  e ∙ ap (λ (xs : List ℕ). spelling k ++ 32 ∷ xs) is ∙ sym (append_assoc (spelling k) (32 ∷ t) rest),
  at_most (spelling k ++ 32 ∷ t) (Key k ∷ words) 50 60 (omega arith) (beside (spelling k) t (Key k ∷ []) words 8 41 (key_text k) h),
  no_comment k (32 ∷ t),
  λ more. rw (f more) refl,
)

pub op_found : (k : Keyword) (text middle : List ℕ) (found : Option (ObjOp × Bor (List ℕ))) → text ≡ spelling k ++ 32 ∷ middle → IfSome found (λ x. GoesOnWithOp k middle x.0 x.1.now)
    → IfSome found (λ x. BeginsWithOp text x.0 x.1.now)
op_found k text middle None e h = tt
op_found k text middle (Some x) e h = op_first k text middle x.1.now x.0 e h

-- the first line of a text, by its words
pub first_line : (text t rest : List ℕ) (w : Word) (ws : List Word) (form : LineForm) → text ≡ t ++ 10 ∷ rest → TextIs t (w ∷ ws) 200 → is_comment t ≡ false
    → form_of (w ∷ ws) ≡ Some form → BeginsWithForm text form rest
first_line text t rest w ws form e h c f = (
  record { bytes = t; ended = true },
  ap lines e ∙ line_cut t rest h.1,
  sym (says_so t w ws form h c f),
  let l = ap length e in let n = length-append t (10 ∷ rest) in omega (arith, l, n),
)

asked : (o : Option (Asking × List Word)) (op : ObjOp) → option_and_then (λ a. fixed a.0 a.1) o ≡ Some (op, []) → o ≡ Some (Fixed op, [])
asked None op h = cc
asked (Some (Fixed found, ws)) op h = let e : (found, ws) ≡ (op, []) = cc in ap (λ (x : ObjOp × List Word). Some (Fixed x.0, x.1)) e
asked (Some (By b l, ws)) op h = cc

-- a keyword of no operation
module _ (k : Keyword) (one : (n : ℕ) → op_of_one k n ≡ None) (amount : (n : ℕ) → op_of_amount k n ≡ None) (element : element_op k ≡ None) where
  no_second : (n : ℕ) (o : Option (ℕ × List Word)) → option_and_then {U = Asking × List Word} (λ e. option_and_then {U = Asking × List Word} (λ op. Some (Fixed op, e.1)) (op_of_element k n e.0)) o ≡ None
  unfolding op_of_element
  no_second n None = refl
  no_second n (Some e) = rw element refl

  no_first : (o : Option (ℕ × List Word)) → option_and_then (λ n. asking_of k n.0 n.1 (op_of_one k n.0) (op_of_amount k n.0)) o ≡ None
  no_first None = refl
  no_first (Some n) = rw (one n.0, amount n.0) (no_second n.0 (number_at n.1))

  no_asking : (words : List Word) (op : ObjOp) → asking_at k words ≡ Some (Fixed op, []) → ⊥
  unfolding asking_at
  no_asking words op h = let none : asking_at k words ≡ None = no_first (number_at words) in cc

ask_key : (k : Keyword) (words : List Word) (op : ObjOp) → asking_at k words ≡ Some (Fixed op, []) → key_form k words ≡ Some (Says (Line.Plain (Ask (Fixed op))))
unfolding key_form ask_form op_of_one op_of_amount element_op
ask_key Keyword.Begin words op h = absurd (no_asking Keyword.Begin (λ n. refl) (λ n. refl) refl words op h)
ask_key Keyword.Commit words op h = absurd (no_asking Keyword.Commit (λ n. refl) (λ n. refl) refl words op h)
ask_key Keyword.Abort words op h = absurd (no_asking Keyword.Abort (λ n. refl) (λ n. refl) refl words op h)
ask_key Keyword.Need words op h = absurd (no_asking Keyword.Need (λ n. refl) (λ n. refl) refl words op h)
ask_key Keyword.Let words op h = absurd (no_asking Keyword.Let (λ n. refl) (λ n. refl) refl words op h)
ask_key Keyword.If words op h = absurd (no_asking Keyword.If (λ n. refl) (λ n. refl) refl words op h)
ask_key Keyword.Else words op h = absurd (no_asking Keyword.Else (λ n. refl) (λ n. refl) refl words op h)
ask_key Keyword.End words op h = absurd (no_asking Keyword.End (λ n. refl) (λ n. refl) refl words op h)
ask_key k words op h = rw h refl

-- a line that is an operation
ask_form_of : (words : List Word) (op : ObjOp) → op_at words ≡ Some (op, []) → form_of words ≡ Some (Says (Line.Plain (Ask (Fixed op))))
unfolding op_at form_of
ask_form_of words op h = by_key (key_at words) h where
  by_key : (k : Option (Keyword × List Word)) → option_and_then (λ k. option_and_then (λ a. fixed a.0 a.1) (asking_at k.0 k.1)) k ≡ Some (op, [])
      → option_and_then (λ k. key_form k.0 k.1) k ≡ Some (Says (Line.Plain (Ask (Fixed op))))
  by_key None h = cc
  by_key (Some k) h = ask_key k.0 k.1 op (asked (asking_at k.0 k.1) op h)

pub asking_line : (text rest : List ℕ) (op : ObjOp) → BeginsWithOp text op (10 ∷ rest) → BeginsWithForm text (Says (Line.Plain (Ask (Fixed op)))) rest
unfolding op_at key_at
asking_line text rest op (t, [], e, h, c, f) = let n : op_at [] ≡ Some (op, []) = f [] in cc
asking_line text rest op (t, (w ∷ ws), e, h, c, f) =
    first_line text t rest w ws _ e (at_most t (w ∷ ws) 60 200 (omega arith) h) c
    (ask_form_of (w ∷ ws) op (ap op_at (ap (λ (xs : List Word). w ∷ xs) (sym (append-nil ws))) ∙ f []))

-- ---- replies

is_no_reply : (r : ObjReply) → reply_word Keyword.Is ≡ Some r → ⊥
unfolding reply_word
is_no_reply r h = cc

reply_of_word : (k : Keyword) (r : ObjReply) (more : List Word) → reply_word k ≡ Some r → reply_at (Key k ∷ more) ≡ Some (r, more)
unfolding reply_at reply_after key_at
reply_of_word Keyword.Is r more h = absurd (is_no_reply r h)
reply_of_word k r more h = rw h refl

pub reply_first : (k : Keyword) (text rest : List ℕ) (r : ObjReply) → text ≡ spelling k ++ rest → Some r ≡ reply_word k → BeginsWithReply text r rest
reply_first k text rest r e h = (
  spelling k,
  Key k ∷ [],
  e,
  at_most (spelling k) (Key k ∷ []) 8 29 (omega arith) (key_text k),
  λ more. reply_of_word k r more (sym h),
)

pub value_reply : (k : Keyword) (text behind middle rest : List ℕ) (v : ℕ) → k ≡ Keyword.Is → text ≡ spelling k ++ behind → behind ≡ 32 ∷ middle
    → BeginsWithWords middle (Number v ∷ []) 20 rest → v < 2 ^ 64 → BeginsWithReply text (ObjReply.Is v) rest
unfolding reply_at reply_after key_at number_below
value_reply k text behind middle rest v same e f (t, is, h) below = (
  spelling Keyword.Is ++ 32 ∷ t,
  Key Keyword.Is ∷ Number v ∷ [],
  e ∙ ap (λ (k : Keyword). spelling k ++ behind) same ∙ ap (λ (xs : List ℕ). spelling Keyword.Is ++ xs) (f ∙ ap (λ (xs : List ℕ). 32 ∷ xs) is),
  beside (spelling Keyword.Is) t (Key Keyword.Is ∷ []) (Number v ∷ []) 8 20 (key_text Keyword.Is) h,
  λ more. rw (lt-ltb v (2 ^ 64) below) refl,
)

-- ---- begin and commit

pub begin_alone : (text rest : List ℕ) → text ≡ spelling Keyword.Begin ++ 10 ∷ rest → BeginsWithForm text (Begins 0) rest
unfolding form_of key_form key_at begin_form
begin_alone text rest e = first_line text _ rest _ [] _ e (at_most _ _ 8 200 (omega arith) (key_text Keyword.Begin)) refl refl

pub commit_alone : (text rest : List ℕ) → text ≡ spelling Keyword.Commit ++ 10 ∷ rest → BeginsWithForm text (Closes Commit) rest
unfolding form_of key_form key_at
commit_alone text rest e = first_line text _ rest _ [] _ e (at_most _ _ 8 200 (omega arith) (key_text Keyword.Commit)) refl refl

pub begin_client : (text middle after rest : List ℕ) (n : ℕ) → text ≡ (spelling Keyword.Begin ++ 32 ∷ []) ++ middle → BeginsWithWords middle (Number n ∷ []) 20 after → after ≡ 10 ∷ rest → n < 1000
    → BeginsWithForm text (Begins n) rest
unfolding form_of key_form key_at begin_form number_below
begin_client text middle after rest n e (t, is, h) l below =
    first_line text (spelling Keyword.Begin ++ 32 ∷ t) rest _ (Number n ∷ []) _
    (e ∙ ap (λ (xs : List ℕ). spelling Keyword.Begin ++ 32 ∷ xs) (is ∙ ap (λ (xs : List ℕ). t ++ xs) l))
    (at_most _ _ 29 200 (omega arith) (beside (spelling Keyword.Begin) t (Key Keyword.Begin ∷ []) (Number n ∷ []) 8 20 (key_text Keyword.Begin) h)) refl (rw (lt-ltb n 1000 below) refl)
