-- What a transcript says of keys' presence, and how that changes with an item at its end.
use Rattle.std.proofs.Common.{◌≡◌, ◌≢◌, ℕ, Option, Some, None, [], ◌∷◌, ◌++◌, refl, sym, subst, ap, ◌∙◌, inl, inr, Contains, ◌⊎◌, eq-eqb, ne_eqb, append-nil}
use Rattle.std.{specs.List.cons_option, specs.List.last_or, proofs.lemmas.List.Elements.filter_map-append}
use Rattle.mlt_tx_meaning.proofs.Names.{cases_eq, Transcript, ObjOp, ObjReply, Gains, contains-first, Appends, Presence, last_of, op_key, presence_of, presences_on, standing_of}
use Rattle.mlt_order.proofs.RunLemmas.{contains-later}
use Rattle.mlt_hash_ghosts.proofs.Lists.{last_append_from}
use Rattle.mlt_tx_meaning.specs.Presences.{presence_at}

presence_here : (item : ObjOp × ObjReply) → presence_at (op_key item.0) item ≡ presence_of item
presence_here item = rw (eq-eqb (op_key item.0) (op_key item.0) refl) refl

presence_beside : (key : ℕ) (item : ObjOp × ObjReply) → op_key item.0 ≢ key → presence_at key item ≡ None
presence_beside key item other = rw (ne_eqb (op_key item.0) key other) refl

presence_nowhere : (key : ℕ) (item : ObjOp × ObjReply) → presence_of item ≡ None → presence_at key item ≡ None
presence_nowhere key item none =
    elim (cases_eq (op_key item.0) key) [
      | inl e ↦ rw (eq-eqb (op_key item.0) key e) none
      | inr n ↦ presence_beside key item n
    ]

-- what is said of a key is said by an item on it
presence_from : (key : ℕ) (item : ObjOp × ObjReply) (p : Presence) → presence_at key item ≡ Some p → (op_key item.0 ≡ key) × (presence_of item ≡ Some p)
presence_from key item p is =
    elim (cases_eq (op_key item.0) key) [
      | inl e ↦ (e, rw (eq-eqb (op_key item.0) key e) at is)
      | inr n ↦ absurd (let f : None ≡ Some p = sym (presence_beside key item n) ∙ is in cc f)
    ]

-- the last presence of a list of items is that of some item, or the one that stood before
abbrev LastFrom : ℕ → Option Presence → Transcript → Presence → Type 0
LastFrom key before t p = (before ≡ Some p) ⊎ ((item : ObjOp × ObjReply) × Contains t item × (presence_at key item ≡ Some p))

last_from_any : (key : ℕ) (t : Transcript) (before : Option Presence) (p : Presence) → last_or before (presences_on key t) ≡ Some p → LastFrom key before t p
last_from_any key [] before p e = inl e
last_from_any key (x ∷ t) before p e =
    elim (presence_at key x) as (λ v. presence_at key x ≡ v → last_or before (cons_option v (presences_on key t)) ≡ Some p → LastFrom key before (x ∷ t) p) [
      | None ↦ λ is h. elim (last_from_any key t before p h) [
        | inl same ↦ inl same
        | inr r ↦ inr (r.0, contains-later x r.0 t r.1, r.2)
      ]
      | Some q ↦ λ is h. elim (last_from_any key t (Some q) p h) [
        | inl same ↦ inr (x, contains-first x t, is ∙ same)
        | inr r ↦ inr (r.0, contains-later x r.0 t r.1, r.2)
      ]
    ] refl e

pub last_from : (key : ℕ) (t : Transcript) (p : Presence) → last_of (presences_on key t) ≡ Some p
    → (item : ObjOp × ObjReply) × Contains t item × (op_key item.0 ≡ key) × (presence_of item ≡ Some p)
last_from key t p e =
    elim (last_from_any key t None p e) [
      | inl none ↦ absurd (cc none)
      | inr r ↦ let from = presence_from key r.0 p r.2 in (r.0, r.1, from.0, from.1)
    ]

-- the last item of a transcript says what comes last of its key
pub last_is : (t : Transcript) (item : ObjOp × ObjReply) (p : Presence) → presence_of item ≡ Some p → last_of (presences_on (op_key item.0) (t ++ item ∷ [])) ≡ Some p
last_is t item p is =
    let key = op_key item.0 in
    ap last_of (filter_map-append (presence_at key) t (item ∷ []) ∙ ap (λ (o : Option Presence). presences_on key t ++ cons_option o []) (presence_here item ∙ is)) ∙ last_append_from None (presences_on key t) p

module _ (transcripts transcripts' : ℕ → Transcript) (tx : ℕ) (item : ObjOp × ObjReply) (gains : Gains transcripts transcripts' tx item) where
  said : (key : ℕ) (o : Option Presence) → presence_at key item ≡ o → presences_on key (transcripts' tx) ≡ presences_on key (transcripts tx) ++ cons_option o []
  said key o is =
      ap (presences_on key) gains.0 ∙ filter_map-append (presence_at key) (transcripts tx) (item ∷ [])
      ∙ ap (λ (p : Option Presence). presences_on key (transcripts tx) ++ cons_option p []) is

  unsaid : (key : ℕ) → presence_at key item ≡ None → (t : ℕ) → presences_on key (transcripts' t) ≡ presences_on key (transcripts t)
  unsaid key none t =
      elim (cases_eq t tx) [
        | inl e ↦ subst (λ (t : ℕ). presences_on key (transcripts' t) ≡ presences_on key (transcripts t)) (sym e) (said key None none ∙ append-nil (presences_on key (transcripts tx)))
        | inr n ↦ ap (presences_on key) (gains.1 t n)
      ]

  -- an item that adds or removes a key appends that to what stands,
  pub gains_presence : (p : Presence) → presence_of item ≡ Some p → Appends (standing_of transcripts) (standing_of transcripts') tx (op_key item.0) p
  gains_presence p is = record {
    here = said (op_key item.0) (Some p) (presence_here item ∙ is);
    others = λ t k pair. elim (cases_eq t tx) [
      | inl e ↦ unsaid k (presence_beside k item (λ same. pair e (sym same))) t
      | inr n ↦ ap (presences_on k) (gains.1 t n)
    ];
  }

  -- and one that does neither leaves it
  pub gains_none : presence_of item ≡ None → standing_of transcripts' ≡ standing_of transcripts
  gains_none none i t k = unsaid k (presence_nowhere k item none) t i
