-- Which errors of accept(2) end no accepting, by their numbers in Linux.
use Rattle.std.specs.Prelude.{ℤ, pos, Bool, List, [], ◌∷◌}
use Rattle.std.specs.{List.list_any, Ordering.int_eq}

-- those of one connection, after which an accept is tried again at once: EPERM, EINTR, ECONNABORTED, ENONET, EPROTO, ENOPROTOOPT,
-- EOPNOTSUPP, ENETDOWN, ENETUNREACH, EHOSTDOWN and EHOSTUNREACH
abbrev pub of_one_connection : List ℤ
of_one_connection =
    pos 1 ∷ pos 4 ∷ pos 103 ∷ pos 64 ∷ pos 71 ∷ pos 92 ∷ pos 95 ∷ pos 100 ∷ pos 101 ∷ pos 112 ∷ pos 113 ∷ []

-- those of a system that has no memory, descriptors or buffers left, after which an accept is tried again after a pause: ENOMEM, EMFILE,
-- ENFILE and ENOBUFS
abbrev pub of_the_system : List ℤ
of_the_system = pos 12 ∷ pos 24 ∷ pos 23 ∷ pos 105 ∷ []

-- whether one of these has the number
abbrev pub is_among : List ℤ → ℤ → Bool
is_among codes code = list_any (λ listed. int_eq listed code) codes
