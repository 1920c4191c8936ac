use Rattle.std.proofs.Common.{ap, sym}
use Rattle.std.specs.Fmt.{digits}
use Rattle.ledger_http.specs.ReplyText.{refusal_text}
use Rattle.ledger_http.proofs.refusal.Refusal.reply.Goals as goal

pub returns-in-BadHead : goal.returns-in-BadHead
unfolding refusal_text digits
returns-in-BadHead c = sym (ap refusal_text c.in-BadHead.is)

pub returns-in-HeadTooLarge : goal.returns-in-HeadTooLarge
unfolding refusal_text digits
returns-in-HeadTooLarge c = sym (ap refusal_text c.in-HeadTooLarge.is)

pub returns-in-LengthRequired : goal.returns-in-LengthRequired
unfolding refusal_text digits
returns-in-LengthRequired c = sym (ap refusal_text c.in-LengthRequired.is)

pub returns-in-BodyTooLarge : goal.returns-in-BodyTooLarge
unfolding refusal_text digits
returns-in-BodyTooLarge c = sym (ap refusal_text c.in-BodyTooLarge.is)

pub returns-in-Truncated : goal.returns-in-Truncated
unfolding refusal_text digits
returns-in-Truncated c = sym (ap refusal_text c.in-Truncated.is)

pub returns-in-NoRoute : goal.returns-in-NoRoute
unfolding refusal_text digits
returns-in-NoRoute c = sym (ap refusal_text c.in-NoRoute.is)

pub returns-in-BadMethod : goal.returns-in-BadMethod
unfolding refusal_text digits
returns-in-BadMethod c = sym (ap refusal_text c.in-BadMethod.is)

pub returns-in-UnknownKey : goal.returns-in-UnknownKey
unfolding refusal_text digits
returns-in-UnknownKey c = sym (ap refusal_text c.in-UnknownKey.is)

pub returns-in-BodyNotJson : goal.returns-in-BodyNotJson
unfolding refusal_text digits
returns-in-BodyNotJson c = sym (ap refusal_text c.in-BodyNotJson.is)

pub returns-in-BadField : goal.returns-in-BadField
unfolding refusal_text digits
returns-in-BadField c = sym (ap refusal_text c.in-BadField.is)

pub returns-in-TooManyEvents : goal.returns-in-TooManyEvents
unfolding refusal_text digits
returns-in-TooManyEvents c = sym (ap refusal_text c.in-TooManyEvents.is)

pub returns-in-NoAccount : goal.returns-in-NoAccount
unfolding refusal_text digits
returns-in-NoAccount c = sym (ap refusal_text c.in-NoAccount.is)

pub returns-in-NoHistory : goal.returns-in-NoHistory
unfolding refusal_text digits
returns-in-NoHistory c = sym (ap refusal_text c.in-NoHistory.is)

pub returns-in-ClockExhausted : goal.returns-in-ClockExhausted
unfolding refusal_text digits
returns-in-ClockExhausted c = sym (ap refusal_text c.in-ClockExhausted.is)

pub returns-in-Unavailable : goal.returns-in-Unavailable
unfolding refusal_text digits
returns-in-Unavailable c = sym (ap refusal_text c.in-Unavailable.is)
