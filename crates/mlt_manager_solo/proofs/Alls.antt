-- All scripts, one after another
use Rattle.std.proofs.Common.{◌≡◌, ◌≤◌, ◌+◌, ◌==◌, ℕ, List, [], ◌∷◌, ◌++◌, count_by, refl, sym, ap, subst, ◌∙◌, flat_map, nat_cmp}
use Rattle.std.proofs.Common.{map as map_list}
use Rattle.std.specs.FinMap as map
use Rattle.mlt_types.specs.declared.limits.Limits.{Limits}
use Rattle.mlt_manager_solo.proofs.Names.{Step, empty_base, IsHistory, ScriptForm, TraceItem, entries_of, Outcome, mark_of, outcome_text, Transaction, Table, ManagerFields, IsAtRest, HasRunAll, HasRunScript}
use Rattle.mlt_script.specs.Grammar.{Spells}
use Rattle.mlt_hash_form.specs.File.{GivesPseudokeys}
use Rattle.mlt_script_serial.{specs.Serial.AreRuns, proofs.Appends.numbered_push, proofs.Appends.runs_push}
use Rattle.mlt_manager.{specs.Openings.IsNew, proofs.Kept.new_kept}
use Rattle.mlt_manager_solo.{specs.Solo.IsSoloText, proofs.Runs.events_push, proofs.Runs.outcome_marks_push, proofs.Runs.run_on}

module _ {P : Type 0} (bits_of : P → ℕ → ℕ) where
  pub none_run : (m : ManagerFields P) → HasRunAll bits_of [] m m []
  none_run m = record { leads = λ base leads. (base, leads, (refl, refl)); exchanges = []; told = refl; run = refl; can = tt; numbered = tt }

  -- **One more script.**
  pub one_more_run : (ss : List ScriptForm) (old m m' : ManagerFields P) (os : List Outcome) (s : ScriptForm) (o : Outcome) → HasRunAll bits_of ss old m os → HasRunScript bits_of s m m' o.tx o.done o.end
      → o.client ≡ s.client → o.number ≡ count_by (λ (p : ScriptForm). p.client == s.client) ss + 1 → HasRunAll bits_of (ss ++ s ∷ []) old m' (os ++ o ∷ [])
  one_more_run ss old m m' os s o all run client number = record {
    leads = λ base leads.
        let a = all.leads base leads in
        let r = run.leads a.0 a.1 in
        (r.0, r.1, runs_push ss base a.0 r.0 old.commits m.commits m'.commits os s o a.2 r.2);
    exchanges = all.exchanges ++ run.exchanges;
    told = events_push ss os all.exchanges run.exchanges s o all.told run.told;
    run = run_on bits_of old m m' all.exchanges run.exchanges all.run run.run;
    can = outcome_marks_push os o all.can run.can;
    numbered = numbered_push [] ss os s o all.numbered client number;
  }

  module _ (m : ManagerFields P) (limits : Limits) (pseudo : P) (new : IsNew m limits pseudo) where
    -- **A new manager is at rest.**
    pub new_rests : GivesPseudokeys (bits_of m.root.pseudo) → IsAtRest bits_of m
    new_rests keys = record {
      manager = new_kept bits_of m limits pseudo keys new;
      nobody = λ i. ap (λ (t : Table). map.get t i) new.txs ∙ map.get-empty {X = Transaction} nat_cmp i;
      limit = subst (λ (n : ℕ). 1 ≤ n) (sym new.made.open_at_most) limits.in_range.open_least;
    }

    -- **What the first scripts and those read have told is a solo text.**
    pub solo_text : (last : ManagerFields P) (bytes input : List ℕ) (first read all scripts : List ScriptForm) (outcomes : List Outcome) → bytes ≡ input → all ≡ scripts → scripts ≡ first ++ read
        → Spells bytes read → HasRunAll bits_of all m last outcomes → IsSoloText bits_of limits pseudo first input (flat_map outcome_text outcomes) last
    solo_text last bytes input first read all scripts outcomes same_bytes same_scripts are spells run =
        let ran = subst (λ (ss : List ScriptForm). HasRunAll bits_of ss m last outcomes) (same_scripts ∙ are) run in
        let led = ran.leads empty_base (subst (λ (items : List TraceItem). IsHistory Step empty_base (entries_of items) empty_base) (sym new.items) refl) in
        record {
          read = read;
          marks = map_list mark_of outcomes;
          outcomes = outcomes;
          base = led.0;
          spells = subst (λ (b : List ℕ). Spells b read) same_bytes spells;
          serial = (last.commits, subst (λ (n : ℕ). AreRuns (first ++ read) empty_base n outcomes led.0 last.commits) new.commits led.2, refl);
          can = ran.can;
          numbered = ran.numbered;
          manager = record { opening = m; is_new = new; exchanges = ran.exchanges; told = ran.told; run = ran.run; leads = led.1 };
          is = refl;
        }
