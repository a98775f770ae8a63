-- The hosts by which a request may name the server: those that are not looked up in DNS.
use Rattle.std.specs.Prelude.{◌≡◌, ◌⊎◌, ℕ, List, ◌++◌, codes, IsTrue, IfSome, IsSomeAnd}
use Rattle.std.specs.{Str.str_eq_ignore_ascii_case, Net.Grammar.IsIpv4Text, Net.Grammar.IsIpv6Text, declared.net.ipv4_addr.Ipv4Addr.Ipv4Addr, declared.net.ipv6_addr.Ipv6Addr.Ipv6Addr}
use Rattle.http.specs.{HeaderMap.Entries, HeaderMap.get, FieldValue.FieldValue, Grammar.IsAuthority, Grammar.authority_host}

-- an IPv6 address in brackets
abbrev pub IsIpv6InBrackets : List ℕ → Type 0
IsIpv6InBrackets host =
    (text : List ℕ) × (address : Ipv6Addr)
    × (host ≡ codes "[" ++ (text ++ codes "]")) × IsIpv6Text text address

-- localhost, an IPv4 address, or an IPv6 address in brackets
abbrev pub IsDirectHost : List ℕ → Type 0
IsDirectHost host =
    IsTrue (str_eq_ignore_ascii_case host (codes "localhost"))
    ⊎ (((address : Ipv4Addr) × IsIpv4Text host address) ⊎ IsIpv6InBrackets host)

-- such a host, which a port may follow
abbrev pub IsDirectAuthority : List ℕ → Type 0
IsDirectAuthority text = IsAuthority text × IsDirectHost (authority_host text)

-- the text begins with this scheme, behind which such a host follows
abbrev pub IsDirectAfter : List ℕ → List ℕ → Type 0
IsDirectAfter scheme origin =
    (authority : List ℕ) × (origin ≡ scheme ++ authority) × IsDirectAuthority authority

-- the origin of a page that came from such a host
abbrev pub IsDirectOrigin : List ℕ → Type 0
IsDirectOrigin origin =
    IsDirectAfter (codes "http://") origin ⊎ IsDirectAfter (codes "https://") origin

-- the header Host is there, and names such a host
abbrev pub HasDirectHost : Entries FieldValue → Type 0
HasDirectHost headers = IsSomeAnd (get headers (codes "host")) (λ host. IsDirectAuthority host.bytes)

-- the header Origin names such a host, or is not there
abbrev pub HasDirectOrigin : Entries FieldValue → Type 0
HasDirectOrigin headers = IfSome (get headers (codes "origin")) (λ origin. IsDirectOrigin origin.bytes)

-- no page of any other host can have a browser send the request
abbrev pub IsDirectRequest : Entries FieldValue → Type 0
IsDirectRequest headers = HasDirectHost headers × HasDirectOrigin headers
