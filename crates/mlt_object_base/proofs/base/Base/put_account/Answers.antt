use Rattle.std.proofs.Common.{◌≡◌, ℕ, ◌∙◌, Result, Ok, Err, OnOk, ap, refl, nat_cmp}
use Rattle.std.specs.FinMap as map
use Rattle.mlt_types.specs.declared.refusal.Refusal.{Refusal}
use Rattle.mlt_object_base.proofs.Names.{Base, base_of}
use Rattle.mlt_object_base.proofs.base.Base.put_account.Goals as goal

in_base : (r : Result (Unit {0}) Refusal) (old new whole : Base) (a b : ℕ) → old ≡ whole → (OnOk r (new.accounts ≡ map.insert old.accounts a b)) → new ≡ record old { accounts = new.accounts }
    → OnOk r (new ≡ record whole { accounts = map.insert whole.accounts a b })
in_base (Ok done) old new whole a b same put rest = rest ∙ ap (λ (x : map.FinMap nat_cmp ℕ). record old { accounts = x }) put ∙ ap (λ (o : Base). record o { accounts = map.insert o.accounts a b }) same
in_base (Err reason) old new whole a b same put rest = tt

pub returns-clause-holds : goal.returns-clause-holds
returns-clause-holds c =
    let i = c.self.inside in
    in_base c.put.result (base_of i.accounts i.elements i.counters) (base_of c.put.new.self i.elements i.counters) c.args.self.now c.args.account c.args.balance c.self.view_is c.put.ensures.put refl
