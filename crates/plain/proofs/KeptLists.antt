-- What a call leaves are a tenant's lists again.
use Rattle.std.proofs.Common.{Option, Some, None, option_map, ◌≡◌, ℕ, ◌≤◌, List, [], ◌∷◌, ◌++◌}
use Rattle.std.proofs.Common.{length, take, arith, refl, sym, ap, ◌∙◌, subst, length-append, Global}
use Rattle.std.proofs.lemmas.List.{take-append-le}
use Rattle.std.specs.declared.vec.Vec.{Vec}
use Rattle.records.specs.declared.account.Account.{Account}
use Rattle.records.specs.declared.transfer.Transfer.{Transfer}
use Rattle.records.specs.Machine.{with_id, with_failed}
use Rattle.records.specs.Step.{max_clock}
use Rattle.records.specs.Valid.{IsNextAccount, IsNextTransfer, later, next_account, IsNextFailed}
use Rattle.records.specs.Valid.{next_failed, next_transfer, with_account, with_transfer}
use Rattle.chain.specs.Tables.{State, on_now}
use Rattle.plain.specs.declared.plain_tables.PlainTables.TheInside.{Inside}
use Rattle.plain.specs.PlainTables.{ascending, ascending_behind, machine_copied, machine_now}
use Rattle.plain.specs.PlainTables.{state_in, IsKept}

pub kept_later :
    (t : Inside) (s : State) (clock : ℕ) → state_in t ≡ s → IsKept t → s.now.clock ≤ clock →
    clock ≤ max_clock → IsKept (record t { clock = clock })
kept_later t s clock is_s kept not_back bounded = record {
  now = later (machine_now t) clock kept.now (omega (arith, ap (λ v. v.now.clock) is_s)) bounded;
  begun = kept.begun;
  lists = kept.lists;
  failed = kept.failed;
  mark = kept.mark;
}

pub kept_account :
    (t : Inside) (s : State) (a : Account) (v : Vec Account Global) → state_in t ≡ s → IsKept t →
    IsNextAccount s.now a → v.items ≡ t.accounts.items ++ a ∷ [] →
    IsKept (record t { accounts = v })
kept_account t s a v is_s kept next pushed =
    let next_now : IsNextAccount (machine_now t) a =
    subst (λ (s : State). IsNextAccount s.now a) (sym is_s) next in
    let left : t.begun.accounts ≤ length t.accounts.items = kept.lists.has_accounts in
    let begun : take t.begun.accounts v.items ≡ take t.begun.accounts t.accounts.items =
    rw (pushed, take-append-le) in
    record {
      now = rw pushed (next_account (machine_now t) a kept.now next_now);
      begun = rw begun kept.begun;
      lists = record {
        has_accounts =
            rw pushed (omega (arith, length-append t.accounts.items (a ∷ [])));
        has_transfers =
            kept.lists.has_transfers;
      };
      failed = kept.failed;
      mark = rw begun kept.mark;
    }

pub state_account :
    (t : Inside) (s : State) (a : Account) (v : Vec Account Global) → state_in t ≡ s → IsKept t →
    v.items ≡ t.accounts.items ++ a ∷ [] →
    state_in (record t { accounts = v }) ≡ on_now (λ m. with_account m a) s
state_account t s a v is_s kept pushed =
    let left : t.begun.accounts ≤ length t.accounts.items = kept.lists.has_accounts in
    let begun : take t.begun.accounts v.items ≡ take t.begun.accounts t.accounts.items =
    rw (pushed, take-append-le) in
    let now : state_in (record t { accounts = v }) ≡ on_now (λ m. with_account m a) (state_in t) =
    rw (begun, pushed) refl in
    now ∙ ap (on_now (λ m. with_account m a)) is_s

pub state_transfer :
    (t : Inside) (s : State) (e : Transfer) (v : Vec Transfer Global) → state_in t ≡ s → IsKept t →
    v.items ≡ t.transfers.items ++ e ∷ [] →
    state_in (record t { transfers = v }) ≡ on_now (λ m. with_transfer m e) s
state_transfer t s e v is_s kept pushed =
    let left : t.begun.transfers ≤ length t.transfers.items = kept.lists.has_transfers in
    let begun : take t.begun.transfers v.items ≡ take t.begun.transfers t.transfers.items =
    rw (pushed, take-append-le) in
    let now : state_in (record t { transfers = v }) ≡ on_now (λ m. with_transfer m e) (state_in t) =
    rw (begun, pushed) refl in
    now ∙ ap (on_now (λ m. with_transfer m e)) is_s

pub kept_transfer :
    (t : Inside) (s : State) (e : Transfer) (v : Vec Transfer Global) → state_in t ≡ s → IsKept t →
    IsNextTransfer s.now e → v.items ≡ t.transfers.items ++ e ∷ [] →
    IsKept (record t { transfers = v })
kept_transfer t s e v is_s kept next pushed =
    let next_now : IsNextTransfer (machine_now t) e =
    subst (λ (s : State). IsNextTransfer s.now e) (sym is_s) next in
    let left : t.begun.transfers ≤ length t.transfers.items = kept.lists.has_transfers in
    let begun : take t.begun.transfers v.items ≡ take t.begun.transfers t.transfers.items =
    rw (pushed, take-append-le) in
    record {
      now = rw pushed (next_transfer (machine_now t) e kept.now next_now);
      begun = rw begun kept.begun;
      lists = record {
        has_accounts = kept.lists.has_accounts;
        has_transfers =
            rw pushed (omega (arith, length-append t.transfers.items (e ∷ [])));
      };
      failed = kept.failed;
      mark = rw begun kept.mark;
    }

-- one id more at the end
ascending_push :
    (ids more : List ℕ) (id : ℕ) →
    ascending_behind ids (more ++ id ∷ []) ≡ with_id id (ascending_behind ids more)
ascending_push ids [] id = refl
ascending_push ids (first ∷ more) id = ascending_push (with_id first ids) more id

not_mapped : {A B : Type 0} (x : Option A) (f : A → B) → option_map f x ≡ None → x ≡ None
not_mapped None f none = refl
not_mapped (Some a) f none = cc

-- no mark is open
no_mark : (t : Inside) (s : State) → state_in t ≡ s → s.marked ≡ None → t.mark ≡ None
no_mark t s is_s unmarked =
    not_mapped t.mark (λ c. machine_copied c (ascending t.failed.items))
    (ap (λ v. v.marked) is_s ∙ unmarked)

pub state_failed :
    (t : Inside) (s : State) (id : ℕ) (v : Vec ℕ Global) → state_in t ≡ s → s.marked ≡ None →
    IsKept t → v.items ≡ t.failed.items ++ id ∷ [] →
    state_in (record t { failed = v }) ≡ on_now (λ m. with_failed m id) s
state_failed t s id v is_s unmarked kept pushed =
    let left : t.begun.failed ≤ length t.failed.items = kept.failed in
    let begun : take t.begun.failed v.items ≡ take t.begun.failed t.failed.items =
    rw (pushed, take-append-le) in
    let free = no_mark t s is_s unmarked in
    let now : state_in (record t { failed = v }) ≡ on_now (λ m. with_failed m id) (state_in t) =
    rw (begun, free, pushed, ascending_push [] t.failed.items id) refl in
    now ∙ ap (on_now (λ m. with_failed m id)) is_s

pub kept_failed :
    (t : Inside) (s : State) (id : ℕ) (v : Vec ℕ Global) → state_in t ≡ s → s.marked ≡ None →
    IsKept t → IsNextFailed s.now id → v.items ≡ t.failed.items ++ id ∷ [] →
    IsKept (record t { failed = v })
kept_failed t s id v is_s unmarked kept next pushed =
    let next_now : IsNextFailed (machine_now t) id =
    subst (λ (s : State). IsNextFailed s.now id) (sym is_s) next in
    let left : t.begun.failed ≤ length t.failed.items = kept.failed in
    let begun : take t.begun.failed v.items ≡ take t.begun.failed t.failed.items =
    rw (pushed, take-append-le) in
    let free = no_mark t s is_s unmarked in
    record {
      now = rw (pushed, ascending_push [] t.failed.items id)
          (next_failed (machine_now t) id kept.now next_now);
      begun = rw begun kept.begun;
      lists = kept.lists;
      failed = rw pushed (omega (arith, length-append t.failed.items (id ∷ [])));
      mark = rw free tt;
    }
