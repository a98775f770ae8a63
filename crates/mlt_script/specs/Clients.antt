-- Scripts by their clients.
use Rattle.std.specs.Prelude.{◌≡◌, ◌<◌, ℕ, zero, suc, List, [], ◌∷◌, ◌++◌, length, reverse, get_or, filter, ◌==◌, Bool}
use Rattle.mlt_script.specs.Scripts.{ScriptForm}

-- whether the script is of this client
abbrev pub is_of : ℕ → ScriptForm → Bool
is_of client s = s.client == client

-- the client's scripts, in their order
abbrev pub scripts_of : ℕ → List ScriptForm → List ScriptForm
scripts_of client scripts = filter (is_of client) scripts

-- a list of these scripts, where there are any
abbrev pub if_any : List ScriptForm → List (List ScriptForm)
if_any [] = []
if_any (s ∷ ss) = (s ∷ ss) ∷ []

-- the scripts of each client below n that has some, by rising number
abbrev pub parts_below : ℕ → List ScriptForm → List (List ScriptForm)
parts_below zero scripts = []
parts_below (suc n) scripts = parts_below n scripts ++ if_any (scripts_of n scripts)

-- the scripts of each client that has some, by rising number
unfoldable pub parts_of : List ScriptForm → List (List ScriptForm)
parts_of scripts = parts_below 1000 scripts

-- a list for each client, with that client's scripts, the last one first
abbrev pub AreFilled : List ScriptForm → List (List ScriptForm) → Type 0
AreFilled scripts lists = (length lists ≡ 1000) × ((client : ℕ) → client < 1000 → get_or lists client [] ≡ reverse (scripts_of client scripts))
