use Rattle.std.proofs.Common.{ap, sym, subst, ◌∙◌, ◌++◌, ℕ, List, take}
use Rattle.ledger_http.specs.Question.{question_of}
use Rattle.clients.specs.Talk.{Talk}
use Rattle.clients.specs.Within.{Asks}
use Rattle.polling.proofs.round.next_message.Goals as goal

pub returns-in-Ok-extend_from_slice : goal.returns-in-Ok-extend_from_slice
returns-in-Ok-extend_from_slice c =
    let asked = c.in-Ok.ensures in
    let question = question_of c.in-Ok.field-0 in
    let front =
    c.front-front.ensures
    ∙ ap (λ (talk : Talk). take c.in_ok-size.size talk.unread.bytes) c.next_size.ensures.same in
    record {
      copied = record {
        question = question;
        ready = record {
          may = sym c.may_answer.ensures ∙ c.if-not-may_answer.false;
          whole = c.in_ok-size.ensures.whole;
          asks =
              subst (λ (bytes : List ℕ). Asks bytes question) front
              (asked.head, asked.has, asked.told);
        };
        copied =
            c.in-Ok-extend_from_slice.ensures.items
            ∙ ap (λ (bytes : List ℕ). bytes ++ c.front-front.result.now) c.new-bytes.ensures.items
            ∙ front;
      };
      same = c.next_size.ensures.same;
    }
