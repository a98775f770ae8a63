-- The letters a to z, which name the variables.
use Rattle.std.specs.Prelude.{ℕ, ◌+◌, ◌-◌, List, [], ◌∷◌, Option, None, nat_lt, if◌then◌else◌, slice_get}
use Rattle.mlt_text_words.specs.declared.letter.Letter.{Letter}

-- the place of a letter, from 0 for a to 25 for z
abbrev pub index_of : Letter → ℕ
index_of Letter.A = 0
index_of Letter.B = 1
index_of Letter.C = 2
index_of Letter.D = 3
index_of Letter.E = 4
index_of Letter.F = 5
index_of Letter.G = 6
index_of Letter.H = 7
index_of Letter.I = 8
index_of Letter.J = 9
index_of Letter.K = 10
index_of Letter.L = 11
index_of Letter.M = 12
index_of Letter.N = 13
index_of Letter.O = 14
index_of Letter.P = 15
index_of Letter.Q = 16
index_of Letter.R = 17
index_of Letter.S = 18
index_of Letter.T = 19
index_of Letter.U = 20
index_of Letter.V = 21
index_of Letter.W = 22
index_of Letter.X = 23
index_of Letter.Y = 24
index_of Letter.Z = 25

abbrev pub all_letters : List Letter
all_letters =
    Letter.A ∷ Letter.B ∷ Letter.C ∷ Letter.D ∷ Letter.E ∷ Letter.F ∷ Letter.G ∷ Letter.H ∷
    Letter.I ∷ Letter.J ∷ Letter.K ∷ Letter.L ∷ Letter.M ∷ Letter.N ∷ Letter.O ∷ Letter.P ∷
    Letter.Q ∷ Letter.R ∷ Letter.S ∷ Letter.T ∷ Letter.U ∷ Letter.V ∷ Letter.W ∷ Letter.X ∷
    Letter.Y ∷ Letter.Z ∷ []

-- a letter's byte, from 97 for a to 122 for z
abbrev pub byte_of : Letter → ℕ
byte_of l = 97 + index_of l

-- the letter of a byte
unfoldable pub letter_of : ℕ → Option Letter
letter_of byte = if nat_lt byte 97 then None else slice_get all_letters (byte - 97)

-- how a letter is written
abbrev pub letter_text : Letter → List ℕ
letter_text l = byte_of l ∷ []
