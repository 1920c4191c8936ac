use Rattle.std.proofs.Common.{refl, sym, subst, IsErr, map, ◌∙◌, to_z-of_z, SFits, w64, rules}
use Rattle.amount.specs.Column.{column_of}
use Rattle.keyed_trees.specs.Kept.{state}
use Rattle.keyed_trees.specs.Rows.{row_of}
use Rattle.ledger_sql.specs.Schema.{ledger_schema}
use Rattle.ledger_entries.specs.Pieces.{history_columns}
use Rattle.ledger_entries.proofs.LoopLemmas.{no_entries, piece_failed, piece_last, piece_next, piece_stopped, sets_out, walk_failed}
use Rattle.ledger_entries.proofs.StateLemmas.{follows_itself}
use Rattle.ledger_entries.proofs.entries.hand_entries.Goals as goal

pub returns-in_err-unread-clause-handed : goal.returns-in_err-unread-clause-handed
returns-in_err-unread-clause-handed g c =
    let walk = c.args.walk.now in
    no_entries g.K.EntrySink.takes g.K.EntrySink.is_full (state ledger_schema g.S.Store c.args.tables.now) walk.account.tenant (column_of walk.account.id) walk.time walk.direction c.args.count c.args.sink.now (state ledger_schema g.S.Store c.args.tables.now)
    c.from_residual.result c.from_residual.ensures.0 c.requires

pub pieces-init : goal.pieces-init
pieces-init g c =
    let walk = c.args.walk.now in
    let fits : SFits w64 walk.account.tenant = search rules in
    record {
      tenant = simp to_z-of_z;
      way = c.in_ok-unread.ensures.way;
      walking = sets_out g.K.EntrySink.takes g.K.EntrySink.is_full (state ledger_schema g.S.Store c.args.tables.now) walk.account.tenant (column_of walk.account.id) walk.time walk.direction c.args.count c.args.sink.now c.in_ok-unread.unread c.in_ok-unread.ensures c.requires;
    }

pub returns-in_err-piece-clause-handed : goal.returns-in_err-piece-clause-handed
returns-in_err-piece-clause-handed g c =
    walk_failed g.K.EntrySink.takes g.K.EntrySink.is_full _ _ _ _ _ _ _ _ _ _ _ c.pieces.invariant.walking _ c.read_piece.ensures.follows c.from_residual-in_err-piece.result c.from_residual-in_err-piece.ensures.0

pub returns-in_err-more-clause-handed : goal.returns-in_err-more-clause-handed
returns-in_err-more-clause-handed g c =
    let was = c.pieces.invariant in
    let some = rw c.deref.ensures.value at c.hand_rows.ensures.handed in
    piece_failed g.K.EntrySink.takes g.K.EntrySink.is_full _ _ _ _ _ _ _ _ _ _ _ was.walking was.way (state ledger_schema g.S.Store c.read_piece.new.tables) c.read_piece.new.self (map (row_of history_columns) c.in_ok-piece.piece.rows.items) c.in_ok-piece.piece.is_last
    c.in_ok-piece.ensures.piece c.read_piece.ensures.follows c.in_ok-piece.ensures.same (state ledger_schema g.S.Store c.hand_rows.new.tables) c.hand_rows.ensures.follows c.pieces.wanted.tenant was.tenant _ _ c.hand_rows.result some
    c.from_residual-in_err-more.result c.from_residual-in_err-more.ensures.0 (subst IsErr (sym c.in_err-more.was) refl)

pub returns-then-not-more-clause-handed : goal.returns-then-not-more-clause-handed
returns-then-not-more-clause-handed g c =
    let was = c.pieces.invariant in
    let some = rw c.deref.ensures.value at c.in_ok-more.ensures.handed in
    piece_stopped g.K.EntrySink.takes g.K.EntrySink.is_full _ _ _ _ _ _ _ _ _ _ _ was.walking was.way (state ledger_schema g.S.Store c.read_piece.new.tables) c.read_piece.new.self (map (row_of history_columns) c.in_ok-piece.piece.rows.items) c.in_ok-piece.piece.is_last
    c.in_ok-piece.ensures.piece c.read_piece.ensures.follows c.in_ok-piece.ensures.same (state ledger_schema g.S.Store c.hand_rows.new.tables) c.hand_rows.ensures.follows c.pieces.wanted.tenant was.tenant _ _ c.in_ok-more.more some c.if-not-more.true

pub returns-then-piece-clause-handed : goal.returns-then-piece-clause-handed
returns-then-piece-clause-handed g c =
    let was = c.pieces.invariant in
    let some = rw c.deref.ensures.value at c.in_ok-more.ensures.handed in
    piece_last g.K.EntrySink.takes g.K.EntrySink.is_full _ _ _ _ _ _ _ _ _ _ _ was.walking was.way (state ledger_schema g.S.Store c.read_piece.new.tables) c.read_piece.new.self (map (row_of history_columns) c.in_ok-piece.piece.rows.items) c.in_ok-piece.piece.is_last
    c.in_ok-piece.ensures.piece c.read_piece.ensures.follows c.in_ok-piece.ensures.same (state ledger_schema g.S.Store c.hand_rows.new.tables) c.hand_rows.ensures.follows c.pieces.wanted.tenant was.tenant _ _ c.in_ok-more.more some c.if-not-more.false c.if-piece.true

pub pieces-preserved : goal.pieces-preserved
pieces-preserved g c =
    let was = c.pieces.invariant in
    let some = rw c.deref.ensures.value at c.in_ok-more.ensures.handed in
    record {
      tenant = c.hand_rows.ensures.tenant ∙ was.tenant;
      way = c.read_piece.ensures.direction ∙ was.way;
      walking = piece_next g.K.EntrySink.takes g.K.EntrySink.is_full _ _ _ _ _ _ _ _ _ _ _ was.walking was.way (state ledger_schema g.S.Store c.read_piece.new.tables) c.read_piece.new.self (map (row_of history_columns) c.in_ok-piece.piece.rows.items) c.in_ok-piece.piece.is_last
          c.in_ok-piece.ensures.piece c.read_piece.ensures.follows c.in_ok-piece.ensures.same (state ledger_schema g.S.Store c.hand_rows.new.tables) c.hand_rows.ensures.follows c.pieces.wanted.tenant was.tenant _ _ c.in_ok-more.more some c.if-not-more.false c.if-piece.false c.in_ok-more.ensures.same;
    }

pub returns-clause-handed : goal.returns-clause-handed
returns-clause-handed g c =
    walk_failed g.K.EntrySink.takes g.K.EntrySink.is_full _ _ _ _ _ _ _ _ _ _ _ c.pieces.invariant.walking _ (follows_itself (state ledger_schema g.S.Store c.pieces.tables)) _ refl
