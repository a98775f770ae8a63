-- What a line of allowed bytes is.
use Rattle.std.proofs.Common.{◌≡◌, ℕ, List, length, true, nat_lt, if◌then◌else◌, refl}
use Rattle.mlt_trace_check.proofs.Names.{list_all, TraceCause, is_allowed, raw_words, Bad, item_or_fault}
use Rattle.mlt_text_words.proofs.Allowed.{no_cr}
use Rattle.mlt_trace_check.specs.Readings.{item_of, reading}

pub allowed_reading : (line : List ℕ) → list_all is_allowed line ≡ true
    → reading (record { bytes = line; ended = true }) ≡ (if nat_lt 200 (length line) then Bad TraceCause.Line else item_or_fault (item_of (raw_words line)))
unfolding reading
allowed_reading line h = rw (no_cr line h, h) refl
