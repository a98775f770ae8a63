-- The text of a report.
use Rattle.std.specs.Prelude.{ℕ, List, [], ◌∷◌, ◌++◌, codes, flat_map}
use Rattle.mlt_types.specs.{declared.refusal.Refusal.Refusal, Refusals.number_of, Refusals.name_of}
use Rattle.mlt_object_kinds.specs.{declared.operation.ObjOp.ObjOp, declared.operation.ObjReply.ObjReply, Bases.Base, Texts.with_number, Texts.reply_text}
use Rattle.mlt_object_base.specs.BaseText.{base_text}
use Rattle.mlt_script_serial.specs.declared.{outcome.End.End, outcome.End.TheVariants.Committed, outcome.End.TheVariants.Aborted, outcome.End.TheVariants.Refused, outcome.Outcome.Outcome, report.ReportForm.ReportForm, report.ReportForm.TheVariants.Solo, report.ReportForm.TheVariants.Run}

-- a text and the LF that ends it
abbrev pub line : List ℕ → List ℕ
line text = text ++ 10 ∷ []

-- the text of a refusal: its number and its name
abbrev pub refusal_text : Refusal → List ℕ
refusal_text refusal = with_number (codes "refused") (number_of refusal) ++ 32 ∷ name_of refusal

abbrev pub end_text : End → List ℕ
end_text (Committed number) = line (with_number (codes "committed") number)
end_text Aborted = line (codes "aborted")
end_text (Refused refusal) = line (refusal_text refusal) ++ line (codes "aborted")

-- the line of a reply
abbrev pub reply_line : ObjOp × ObjReply → List ℕ
reply_line done = line (reply_text done.1)

-- what became of a script: a line for each reply, and then how it ended
abbrev pub outcome_text : Outcome → List ℕ
outcome_text o = flat_map reply_line o.done ++ end_text o.end

-- the script's line
abbrev pub script_line : Outcome → List ℕ
script_line o = line (with_number (with_number (codes "client") o.client ++ 32 ∷ codes "script") o.number)

-- the outcomes alone, or each behind its script's line and then the base
abbrev pub report_text : ReportForm → List Outcome → Base → List ℕ
report_text Solo outcomes base = flat_map outcome_text outcomes
report_text Run outcomes base = flat_map (λ o. script_line o ++ outcome_text o) outcomes ++ base_text base
