use Rattle.mlt_hash_ghosts.proofs.finding.ghost_of.Goals as goal

pub returns-in_default-clause-found : goal.returns-in_default-clause-found
returns-in_default-clause-found g c = λ n bucket path. absurd (c.in_default.ensures.path n bucket path)

pub returns-clause-no_path : goal.returns-clause-no_path
returns-clause-no_path g c = λ none. absurd (none c.in-Some.number c.in-Some.bucket.now c.in-Some.ensures.path)
