-- Names of other crates, of std and of specs/ that two files of these proofs or more import. Declares nothing.
pub use Rattle.mlt_text_words.specs.{Fronts.is_printable, Lines.is_allowed, Lines.is_comment, Lines.is_lf, Numbers.is_digit, Words.all_keywords, Words.first_word, Words.is_black, Words.is_blank, Words.raw_words, Words.spelled_among, Words.spelling, Words.word_at, Words.word_if, declared.keyword.Keyword.Keyword, declared.keyword.Word.Word, declared.keyword.Word.TheVariants.Number, declared.letter.Letter.Letter}
pub use Rattle.std.{proofs.lemmas.List.Quantifiers.position-Some, proofs.lemmas.List.Sums.fails_before_first, proofs.lemmas.Slice.Eq.bytes_eq-Decides, specs.Char.digit_value, specs.List.list_all, specs.List.position_or_len, specs.Str.Parse.digits_value}
