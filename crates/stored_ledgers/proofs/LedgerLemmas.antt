-- What a tenant's batch leaves of a database that holds ledgers.
use Rattle.std.proofs.Common.{◌≡◌, ◌≢◌, ℕ, ◌≤◌, ℤ, inl, inr, Some, None, List, [], ◌∷◌, map, filter, length, refl, sym, ap, subst, ◌∙◌}
use Rattle.std.specs.List.{AllByRecursion}
use Rattle.std.specs.Ordering.{nat_cmp}
use Rattle.sqlite_value.specs.Order.{column}
use Rattle.sqlite_keyed.specs.Lists.{sort_by}
use Rattle.sqlite_trees.specs.Tree.{Trees}
use Rattle.sqlite.specs.Effect.{Database}
use Rattle.ledger_sql.specs.Schema.{tenant_tree}
use Rattle.ledger_sql.specs.TableRows.{cells_from, is_int, is_blob, directory_rows, with_name as rows_with_name}
use Rattle.stored_tables.specs.Frames.{KeepsRows}
use Rattle.stored_tables.specs.Holds.{HoldsMachine}
use Rattle.stored_tables.specs.InBatch.{IsBatchOf}
use Rattle.stored_tables.specs.MachineOf.{machine_of, account_of, transfer_of, clock_of, wide}
use Rattle.stored_ledgers.specs.DueSetLaws.{same_number}
use Rattle.stored_ledgers.specs.Directory.{with_number, AreDistinct, IsEntry, first_number, number_of, tenants_in}
use Rattle.stored_ledgers.specs.Ledger.{HoldsLedgers, HasNoRows}
use Rattle.stored_ledgers.proofs.TenantLemmas.{one_digest, has_row}

-- rows that stay tell the same machine
pub machine_kept : (number : ℤ) (old new : Trees) → KeepsRows number old new
    → machine_of number new ≡ machine_of number old
unfolding machine_of
machine_kept number old new kept = λ i. record {
  accounts = sort_by (λ a b. nat_cmp a.timestamp b.timestamp) (map account_of (kept.accounts i));
  transfers = sort_by (λ s t. nat_cmp s.timestamp t.timestamp) (map transfer_of (kept.transfers i));
  clock = clock_of (kept.clock i);
  failed = sort_by nat_cmp (map (λ row. wide (column row 0)) (kept.failed i));
}

-- and hold it
pub held_kept : (number : ℤ) (old new : Trees) → KeepsRows number old new
    → HoldsMachine number (machine_of number old) old → HoldsMachine number (machine_of number new) new
held_kept number old new kept held =
    subst (λ m. HoldsMachine number m new) (sym (machine_kept number old new kept))
    (record {
      valid = held.valid;
      rows = record {
        clock = kept.clock ∙ held.rows.clock;
        accounts = rw kept.accounts held.rows.accounts;
        transfers = rw kept.transfers held.rows.transfers;
        balances = rw kept.balances held.rows.balances;
        statuses = rw kept.statuses held.rows.statuses;
        history = rw kept.history held.rows.history;
        failed = rw kept.failed held.rows.failed;
      };
    })

-- where there are none, there are still none
pub none_kept : (number : ℤ) (old new : Trees) → KeepsRows number old new → HasNoRows number old
    → HasNoRows number new
none_kept number old new kept none = record {
  clock = kept.clock ∙ none.clock;
  accounts = kept.accounts ∙ none.accounts;
  transfers = kept.transfers ∙ none.transfers;
  balances = kept.balances ∙ none.balances;
  statuses = kept.statuses ∙ none.statuses;
  history = kept.history ∙ none.history;
  failed = kept.failed ∙ none.failed;
}

-- a directory that stays finds the same tenants
module _ (old new : Trees) (same : new tenant_tree ≡ old tenant_tree) where
  pub same_directory : directory_rows new ≡ directory_rows old
  same_directory = ap (map (λ row. column row 0 ∷ cells_from 2 2 row)) same

  pub same_of : (digest : List ℕ) → number_of digest new ≡ number_of digest old
  unfolding number_of
  same_of digest =
      ap (λ rows. first_number (filter (λ row. is_blob digest (column row 2)) rows)) same_directory

  pub same_numbered : (number : ℤ) → with_number number new ≡ with_number number old
  same_numbered number = ap (filter (λ row. is_int number (column row 0))) same_directory

  pub distinct_kept : AreDistinct old → AreDistinct new
  distinct_kept distinct = record {
    numbers = λ number. subst (λ rows. length rows ≤ 1) (sym (same_numbered number)) (distinct.numbers number);
    names = λ name.
        subst (λ rows. length (rows_with_name name rows) ≤ 1) (sym same_directory) (distinct.names name);
    digests = λ digest.
        subst (λ rows. length (filter (λ row. is_blob digest (column row 2)) rows) ≤ 1)
        (sym same_directory) (distinct.digests digest);
  }

module _ (digest : List ℕ) (tenant : ℤ) (old now : Database) (found : number_of digest old.trees ≡ Some tenant)
    (ledgers : HoldsLedgers old) (batch : IsBatchOf tenant old now) where
  abbrev same_at : (other : List ℕ) → number_of other now.trees ≡ number_of other old.trees
  same_at = same_of old.trees now.trees batch.others.directory

  -- after a tenant's batch the database holds ledgers
  pub ledgers_after : HoldsLedgers now
  ledgers_after = record {
    schema = batch.ledger;
    version = ap (map (cells_from 2 1)) batch.others.version ∙ ledgers.version;
    numbered = batch.numbered;
    entries = subst (AllByRecursion IsEntry) (sym (same_directory old.trees now.trees batch.others.directory)) ledgers.entries;
    distinct = distinct_kept old.trees now.trees batch.others.directory ledgers.distinct;
    machines = λ other number is. elim (same_number number tenant) [
      | inl same ↦ subst (λ t. HoldsMachine t (machine_of t now.trees) now.trees) (sym same) batch.holds
      | inr differs ↦ held_kept number old.trees now.trees (batch.others.others number differs)
          (ledgers.machines other number (sym (same_at other) ∙ is))
    ];
    owned = λ number none.
        let before : with_number number old.trees ≡ [] =
        sym (same_numbered old.trees now.trees batch.others.directory number) ∙ none in
        none_kept number old.trees now.trees
        (batch.others.others number (λ same. has_row digest tenant old.trees found
        (subst (λ t. with_number t old.trees ≡ []) same before)))
        (ledgers.owned number before);
  }

  -- and each other tenant's machine is as before
  pub others_after : (other : List ℕ) → other ≢ digest → tenants_in now.trees other ≡ tenants_in old.trees other
  others_after other differs =
      elim (number_of other old.trees) as (λ n. number_of other old.trees ≡ n
      → tenants_in now.trees other ≡ tenants_in old.trees other) [
        | None ↦ λ none. rw (same_at other, none) refl
        | Some number ↦ λ is. rw (same_at other, is) (ap Some (machine_kept number old.trees now.trees
            (batch.others.others number (λ same. differs (one_digest other digest tenant old.trees
            (ledgers.distinct.numbers tenant) (subst (λ t. number_of other old.trees ≡ Some t) same is) found)))))
      ] refl
