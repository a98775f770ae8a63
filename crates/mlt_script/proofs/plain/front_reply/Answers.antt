use Rattle.std.proofs.Common.{◌^◌, ◌<◌, rules}
use Rattle.mlt_script.proofs.PlainForms.{reply_first, value_reply}
use Rattle.mlt_script.proofs.plain.front_reply.Goals as goal

pub returns-in_ok-value-in-Is : goal.returns-in_ok-value-in-Is
returns-in_ok-value-in-Is c =
    let fits : c.in_ok-value-in-Is.value < 2 ^ 64 = search rules in
    value_reply c.in_ok-keyword.keyword _ _ _ _ _ c.in-Is.is c.in_ok-keyword.ensures.some c.in_ok-after-in-Is.ensures.some c.in_ok-value-in-Is.ensures fits

pub returns-in_ok-reply-in_default : goal.returns-in_ok-reply-in_default
returns-in_ok-reply-in_default c = reply_first c.in_ok-keyword.keyword _ _ _ c.in_ok-keyword.ensures.some c.in_ok-reply-in_default.ensures
