-- What stands at which path.
use Rattle.std.specs.Prelude.{◌≡◌, ◌≢◌, ◌<◌, ◌^◌, ◌⊎◌, ℕ, List, ◌++◌, codes, Bool, true, false, if◌then◌else◌, IsTrue, IsFalse, Some}
use Rattle.mlt_text_words.specs.Numbers.{number_of}
use Rattle.mlt_serve_admin.specs.declared.resources.Resource.{Resource}
use Rattle.mlt_serve_admin.specs.declared.resources.Resource.TheVariants.{Page, Live, Ready, Status, Metrics, Waits, Sessions, Base, Save, Stop, SessionEnd}

-- the resource stands at this path; a client's number may have zeros before it
abbrev pub IsAt : List ℕ → Resource → Type 0
IsAt path Page = path ≡ codes "/"
IsAt path Live = path ≡ codes "/live"
IsAt path Ready = path ≡ codes "/ready"
IsAt path Status = path ≡ codes "/status"
IsAt path Metrics = path ≡ codes "/metrics"
IsAt path Waits = path ≡ codes "/waits"
IsAt path Sessions = path ≡ codes "/sessions"
IsAt path Base = path ≡ codes "/base"
IsAt path Save = path ≡ codes "/save"
IsAt path Stop = path ≡ codes "/stop"
IsAt path (SessionEnd client) =
    (digits : List ℕ)
    × (path ≡ codes "/sessions/" ++ (digits ++ codes "/end"))
    × (number_of digits ≡ Some client)
    × (client < 2 ^ 32)

-- no resource without a number stands at this path
pub record IsAtNoFixedPath (path : List ℕ) : Type 0 where
  pub page : path ≢ codes "/"
  pub live : path ≢ codes "/live"
  pub ready : path ≢ codes "/ready"
  pub status : path ≢ codes "/status"
  pub metrics : path ≢ codes "/metrics"
  pub waits : path ≢ codes "/waits"
  pub sessions : path ≢ codes "/sessions"
  pub base : path ≢ codes "/base"
  pub save : path ≢ codes "/save"
  pub stop : path ≢ codes "/stop"

-- whether to ask for it changes the server
abbrev pub changes : Resource → Bool
changes Save = true
changes Stop = true
changes (SessionEnd client) = true
changes _ = false

-- it is asked for by this method
abbrev pub IsMethodOf : List ℕ → Resource → Type 0
IsMethodOf method resource =
    (IsTrue (changes resource) × (method ≡ codes "POST"))
    ⊎ (IsFalse (changes resource) × ((method ≡ codes "GET") ⊎ (method ≡ codes "HEAD")))

-- the methods by which it is asked for, as the header Allow lists them
abbrev pub methods_of : Resource → List ℕ
methods_of resource = if changes resource then codes "POST" else codes "GET, HEAD"
