-- What the flag bits of accounts and transfers say.
use Rattle.std.specs.Prelude.{ℕ, ◌/◌, ◌%◌, ◌^◌, Bool, ◌==◌, ◌&&◌, ◌||◌, not, nat_le}
use Rattle.records.specs.declared.account_flags.AccountFlags.{AccountFlags}
use Rattle.records.specs.declared.transfer_flags.TransferFlags.{TransferFlags}

-- whether the bit with this place is set
abbrev pub has_bit : ℕ → ℕ → Bool
has_bit bits place = bits / 2 ^ place % 2 == 1

-- of accounts, bit 0: the event stands or falls with the next one
abbrev pub is_account_linked : AccountFlags → Bool
is_account_linked flags = has_bit flags.0 0

-- bit 1: all debits together never exceed the posted credits
abbrev pub limits_debits : AccountFlags → Bool
limits_debits flags = has_bit flags.0 1

-- bit 2: all credits together never exceed the posted debits
abbrev pub limits_credits : AccountFlags → Bool
limits_credits flags = has_bit flags.0 2

-- bit 3: the balances after each entry may be asked for
abbrev pub keeps_history : AccountFlags → Bool
keeps_history flags = has_bit flags.0 3

-- one of the bits 4 to 15
abbrev pub has_reserved_account_flag : AccountFlags → Bool
has_reserved_account_flag flags = nat_le (2 ^ 4) flags.0

-- the two limits exclude each other
abbrev pub are_account_flags_exclusive : AccountFlags → Bool
are_account_flags_exclusive flags = limits_debits flags && limits_credits flags

-- of transfers, bit 0: the event stands or falls with the next one
abbrev pub is_transfer_linked : TransferFlags → Bool
is_transfer_linked flags = has_bit flags.0 0

-- bit 1: the amount is set aside
abbrev pub is_pending : TransferFlags → Bool
is_pending flags = has_bit flags.0 1

-- bit 2: it posts a pending transfer
abbrev pub is_post : TransferFlags → Bool
is_post flags = has_bit flags.0 2

-- bit 3: it voids a pending transfer
abbrev pub is_void : TransferFlags → Bool
is_void flags = has_bit flags.0 3

-- bit 4: the amount is lowered to the room of the debit account
abbrev pub is_balancing_debit : TransferFlags → Bool
is_balancing_debit flags = has_bit flags.0 4

-- bit 5: the amount is lowered to the room of the credit account
abbrev pub is_balancing_credit : TransferFlags → Bool
is_balancing_credit flags = has_bit flags.0 5

-- it posts or voids a pending transfer
abbrev pub is_post_or_void : TransferFlags → Bool
is_post_or_void flags = is_post flags || is_void flags

-- one of the balancing bits
abbrev pub is_balancing : TransferFlags → Bool
is_balancing flags = is_balancing_debit flags || is_balancing_credit flags

-- none of pending, post and void
abbrev pub is_single_phase : TransferFlags → Bool
is_single_phase flags = not (is_pending flags) && not (is_post_or_void flags)

-- one of the bits 6 to 15
abbrev pub has_reserved_transfer_flag : TransferFlags → Bool
has_reserved_transfer_flag flags = nat_le (2 ^ 6) flags.0

-- pending, post and void exclude each other, and post and void exclude balancing
abbrev pub are_transfer_flags_exclusive : TransferFlags → Bool
are_transfer_flags_exclusive flags =
    is_pending flags && is_post_or_void flags
    || is_post flags && is_void flags
    || is_post_or_void flags && is_balancing flags
