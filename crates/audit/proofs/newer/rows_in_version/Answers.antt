use Rattle.std.proofs.Common.{◌≡◌, ◌<◌, ℕ, List, map, sym, ap, ◌∙◌, subst}
use Rattle.records.specs.Machine.{Machine}
use Rattle.records.specs.Valid.{IsValid}
use Rattle.rows.specs.declared.balance_cells.BalanceCells.{BalanceCells}
use Rattle.rows.specs.declared.status_cells.StatusCells.{StatusCells}
use Rattle.rows.specs.declared.history_cells.HistoryCells.{HistoryCells}
use Rattle.rows.specs.Cells.{balance_cells, status_cells, history_cells}
use Rattle.rows.specs.Prescribed.{rows_for}
use Rattle.rows.specs.Tables.{history_key}
use Rattle.rows.specs.TypedRows.{FileRows, lists_of}
use Rattle.audit.specs.Newer.{none_failed, with_derived, DerivedRowsAreTheirs}
use Rattle.audit.specs.Order.{in_order}
use Rattle.audit.specs.Sound.{AreRowsOf}
use Rattle.audit.proofs.newer.rows_in_version.Goals as goal

module _ (theirs : DerivedRowsAreTheirs) (version to : ℕ) (rows : FileRows) (less : version < 3) (m : Machine) (valid : IsValid m) (are : AreRowsOf version m rows)
    (balances : List BalanceCells) (statuses : List StatusCells) (history : List HistoryCells)
    (b : balances ≡ map balance_cells (in_order (λ row. row.account) (rows_for to (none_failed m)).balances))
    (s : statuses ≡ map status_cells (in_order (λ row. row.transfer) (rows_for to (none_failed m)).statuses))
    (h : history ≡ map history_cells (in_order history_key (rows_for to (none_failed m)).history)) where
  theirs_too : AreRowsOf to (none_failed m) (record rows { balances = balances; statuses = statuses; history = history })
  theirs_too =
      let is : with_derived to (none_failed m) rows ≡ record rows { balances = balances; statuses = statuses; history = history } =
      λ i. record rows { balances = sym b i; statuses = sym s i; history = sym h i } in
      subst (AreRowsOf to (none_failed m)) is (theirs version to rows m less valid are)

stored : {V C : Type 0} (cells : V → C) (list : List C) (read made wanted : List V) → list ≡ map cells read → read ≡ made → made ≡ wanted → list ≡ map cells wanted
stored cells list read made wanted is same all = is ∙ ap (map cells) (same ∙ all)

pub returns-clause-same : goal.returns-clause-same
returns-clause-same c m valid are =
    let made = c.in_ok-running.ensures m valid are in
    let running = made.0 in
    theirs_too c.sound_rows_lead.ensures.derived c.args.version c.args.to (lists_of c.args.rows) c.requires.older m valid are c.in_ok-balances.balances.items c.in_ok-statuses.statuses.items c.in_ok-history.history.items
    (stored balance_cells _ _ _ _ c.in_ok-balances.ensures c.deref.ensures.value (c.in_ok-balance_rows.ensures.all (none_failed m) running))
    (stored status_cells _ _ _ _ c.in_ok-statuses.ensures c.deref-2.ensures.value (c.in_ok-status_rows.ensures.all (none_failed m) running))
    (stored history_cells _ _ _ _ c.in_ok-history.ensures c.deref-3.ensures.value (c.in_ok-history_rows.ensures.all (none_failed m) running.valid made.1))

pub returns-clause-sound : goal.returns-clause-sound
returns-clause-sound c =
    let sound = c.requires.sound in
    (none_failed sound.0, c.sound_rows_lead.ensures.valid sound.0 sound.1, returns-clause-same c sound.0 sound.1 sound.2)

pub history_rows-requires : goal.history_rows-requires
history_rows-requires c =
    let r = c.requires.sound in
    let made = c.in_ok-running.ensures r.0 r.1 r.2 in
    (none_failed r.0, made.0.valid, made.1)
