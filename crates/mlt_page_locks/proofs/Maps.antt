-- Finite maps whose keys are numbers, with the test of numbers in what `get` answers. Other crates cite these lemmas.
use Rattle.std.proofs.Common.{◌≡◌, ℕ, eqb, cond, Some, None, ◌∙◌, ap, nat_cmp}
use Rattle.mlt_page_locks.proofs.Names.{nat_cmp_total}
use Rattle.std.specs.Cmp.{unsigned_tied}
use Rattle.std.specs.FinMap as map

pub get_inserted : {X : Type 0} (m : map.FinMap nat_cmp X) (k : ℕ) (v : X) (q : ℕ) → map.get (map.insert m k v) q ≡ cond (eqb q k) (Some v) (map.get m q)
get_inserted m k v q = map.get-insert nat_cmp_total m k v q ∙ ap (λ b. cond b (Some v) (map.get m q)) (unsigned_tied q k)

pub get_removed : {X : Type 0} (m : map.FinMap nat_cmp X) (k q : ℕ) → map.get (map.remove m k) q ≡ cond (eqb q k) None (map.get m q)
get_removed m k q = map.get-remove nat_cmp_total m k q ∙ ap (λ b. cond b None (map.get m q)) (unsigned_tied q k)

-- two maps that answer alike are equal
pub same_entries : {X : Type 0} (m n : map.FinMap nat_cmp X) → ((q : ℕ) → map.get m q ≡ map.get n q) → m ≡ n
same_entries m n same = map.same_map nat_cmp_total map.nat_cmp-IsAntisymmetric m n same
