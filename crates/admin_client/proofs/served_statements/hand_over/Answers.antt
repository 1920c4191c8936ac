use Rattle.std.proofs.Common.{◌++◌, ◌∷◌, ◌∙◌, List, ℕ, [], append_assoc, ap, refl, subst, sym, append-nil}
use Rattle.chain.specs.declared.account_entry.AccountEntry.{AccountEntry}
use Rattle.control.specs.declared.entries.Entries.{Entries}
use Rattle.records.specs.Streams.{TakesRows}
use Rattle.admin_client.specs.Served.{ComeBehind, IsPieceAnswered, last_time, piece_behind, up_to}
use Rattle.admin_client.proofs.ServedLemmas.{failure_told, pieces_more, taken_then, unserved_at_call, unserved_by}
use Rattle.admin_client.proofs.served_statements.hand_over.Goals as goal

pub pieces-init : goal.pieces-init
pieces-init g c = record {
  so_far = [];
  latest = c.args.first.entries;
  last = c.in_ok-last.ensures.last ∙ ap last_time c.as_slice.ensures.value;
  taken =
      subst
      (λ (entries : List AccountEntry). TakesRows g.S.EntrySink.takes c.args.sink.now entries
      c.hand_entries.new.sink)
      (c.as_slice.ensures.value ∙ sym (append-nil c.args.first.entries.entries.items))
      c.in_ok-last.ensures.taken;
  failed = c.in_ok-last.ensures.failed;
  behind = λ pieces come.
      subst
      (λ (to : ℕ). ComeBehind IsPieceAnswered (record c.args.first.asked { to = to })
      c.args.first.entries pieces)
      c.min.ensures come;
}

pub pieces-preserved : goal.pieces-preserved
pieces-preserved g c =
    let before = c.pieces.invariant in
    let more = c.in_ok-more.more in record {
      so_far = before.so_far ++ more ∷ [];
      latest = more;
      last = c.in_ok-last-2.ensures.last ∙ ap last_time c.as_slice-in-pieces.ensures.value;
      taken =
          subst
          (λ (entries : List AccountEntry). TakesRows g.S.EntrySink.takes c.args.sink.now entries
          c.hand_entries-in-pieces.new.sink)
          (pieces_more (c.args.first.entries ∷ before.so_far) more)
          (taken_then g.S.EntrySink.takes c.args.sink.now c.pieces.sink
          c.hand_entries-in-pieces.new.sink _ more.entries.items before.taken
          (subst
          (λ (entries : List AccountEntry). TakesRows g.S.EntrySink.takes c.pieces.sink entries
          c.hand_entries-in-pieces.new.sink)
          c.as_slice-in-pieces.ensures.value c.in_ok-last-2.ensures.taken));
      failed = c.in_ok-last-2.ensures.failed ∙ before.failed;
      behind = λ pieces come.
          subst
          (λ (all : List Entries). ComeBehind IsPieceAnswered
          (up_to c.args.first.entries.clock c.args.first.asked) c.args.first.entries all)
          (sym (append_assoc before.so_far (more ∷ []) pieces))
          (before.behind (more ∷ pieces) (
            c.in-Some.next,
            ap (piece_behind c.pieces.asked) (sym before.last) ∙ sym c.piece_behind.ensures
                ∙ c.in-Some.is,
            (c.in_ok-more._answer, rw c.in_ok-more.ensures.ok_part at c.in_ok-ask_piece.ensures),
            come,
          ));
    }

pub returns-in_default-clause-taken : goal.returns-in_default-clause-taken
returns-in_default-clause-taken g c =
    let before = c.pieces.invariant in (
      before.so_far,
      subst
          (λ (all : List Entries). ComeBehind IsPieceAnswered
          (up_to c.args.first.entries.clock c.args.first.asked) c.args.first.entries all)
          (append-nil before.so_far)
          (before.behind []
          (ap (piece_behind c.pieces.asked) (sym before.last) ∙ sym c.piece_behind.ensures
          ∙ c.in_default.is)),
      before.taken,
    )

pub returns-in_err-last-clause-failed : goal.returns-in_err-last-clause-failed
returns-in_err-last-clause-failed g c =
    failure_told c.from_residual.result c.in_err-last.field-0.0 _ _ _
    c.from_residual.ensures.1 c.in_err-last.ensures.failed refl

pub returns-in_err-last-clause-fault : goal.returns-in_err-last-clause-fault
returns-in_err-last-clause-fault g c =
    unserved_by c.from_residual.result c.in_err-last.field-0.0
    c.from_residual.ensures.1

pub returns-in_err-last-2-clause-failed : goal.returns-in_err-last-2-clause-failed
returns-in_err-last-2-clause-failed g c =
    failure_told c.from_residual-in_err-last-2.result c.in_err-last-2.field-0.0 _ _ _
    c.from_residual-in_err-last-2.ensures.1 c.in_err-last-2.ensures.failed
    c.pieces.invariant.failed

pub returns-in_err-last-2-clause-fault : goal.returns-in_err-last-2-clause-fault
returns-in_err-last-2-clause-fault g c =
    unserved_by c.from_residual-in_err-last-2.result c.in_err-last-2.field-0.0
    c.from_residual-in_err-last-2.ensures.1

pub returns-in_err-ask_piece-clause-fault : goal.returns-in_err-ask_piece-clause-fault
returns-in_err-ask_piece-clause-fault g c =
    unserved_at_call c.from_residual-in_err-ask_piece.result c.in_err-ask_piece.field-0.0
    c.from_residual-in_err-ask_piece.ensures.1 c.in_err-ask_piece.ensures
