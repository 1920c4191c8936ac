use Rattle.std.proofs.Common.{◌∙◌, Ok, ap, subst, sym}
use Rattle.std.specs.Net.Socket.{socket_ip, socket_port}
use Rattle.command_line.specs.Values.{text_in}
use Rattle.listener.specs.Listening.{ReadsListening}
use Rattle.polling.specs.Courses.{IsSince}
use Rattle.polling.specs.Laws.{empty_hall}
use Rattle.service.specs.Openings.{HasLed}
use Rattle.service.specs.Seen.{Whole}
use Rattle.commands.specs.Kept.{kept_of, kept_store, renewal_seen}
use Rattle.commands.proofs.RenewLemmas.{found_live_first}
use Rattle.commands.proofs.file_serving.serve_file.Goals as goal

pub returns-in-Ok-clause-served : goal.returns-in-Ok-clause-served
returns-in-Ok-clause-served c = record {
  listening = c.in_ok-listening.listening;
  listens = record {
    ip = subst (λ ip. ReadsListening (text_in c.args.address) (Ok ip))
        (sym (ap socket_ip c.in_ok-listening.ensures ∙ c.new-asked.ensures.ip))
        c.in_ok-asked_address.ensures;
    port = ap socket_port c.in_ok-listening.ensures ∙ c.new-asked.ensures.port;
  };
  first = c.in_ok-store.store;
  begins = c.in_ok-store.ensures.first;
  moments = c.new-moments.result;
  served = c.in-Ok.ensures.served;
  course =
      let served = c.in-Ok.ensures.served in
      subst
      (HasLed kept_store
      (IsSince (renewal_seen (λ files told. Unit {0}))
      (empty_hall (Whole (kept_of c.in_ok-store.store)) c.new-moments.result c.in_ok-listening.listening)
      served.serves.served.deeds served.serves.served.last served.serves.served.served)) served.kept
      (served.serves.course
      (found_live_first c.in_ok-store.store c.in_ok-store.ensures.first.usable
      c.in_ok-store.ensures.first.ready));
}
