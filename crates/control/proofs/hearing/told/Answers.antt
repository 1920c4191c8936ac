use Rattle.std.proofs.Common.{◌≡◌, Some, inr, rules}
use Rattle.std.specs.Prelude.{◌≢◌}
use Rattle.serde_json.specs.View.{view}
use Rattle.wire.specs.Body.{json_of}
use Rattle.control.specs.Told.{HasReply}
use Rattle.control.proofs.hearing.told.Goals as goal

pub returns-then-reply-ne200-clause-fault : goal.returns-then-reply-ne200-clause-fault
returns-then-reply-ne200-clause-fault c =
    let reply = c.in_ok-reply.reply in
    let has : HasReply c.args.bytes.now reply.status reply.body.now = search rules in
    let refused : reply.status ≢ 200 = search rules in
    let json : json_of reply.body.now ≡ Some (view c.in_ok-value.value) = search rules in
    inr (reply.status, reply.body.now, has, refused, view c.in_ok-value.value, json, c.fault_in.ensures)
