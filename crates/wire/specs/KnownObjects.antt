-- The events, filters and queries that JSON objects mean. A table has the fields that an object may
-- have, in the order in which they are read, with the number wanted in each. After it stands what
-- they say where each of them is good.
use Rattle.std.specs.Prelude.{ℕ, ◌^◌, [], ◌∷◌, ◌++◌, codes, Option, Some, None}
use Rattle.std.specs.Prelude.{nat_lt, if◌then◌else◌}
use Rattle.serde_json.specs.Data.{Data}
use Rattle.serde_json.specs.Find.{get}
use Rattle.records.specs.declared.account.AccountEvent.{AccountEvent}
use Rattle.records.specs.declared.filter.AccountFilter.{AccountFilter}
use Rattle.records.specs.declared.query.PageFilter.{PageFilter}
use Rattle.records.specs.declared.query.QueryFilter.{QueryFilter}
use Rattle.records.specs.declared.query.Tags.{Tags}
use Rattle.records.specs.declared.transfer.TransferEvent.{TransferEvent}
use Rattle.wire.specs.declared.wanted.Wanted.TheVariants.{Digits128, Digits64, WholeBelow, Limit}
use Rattle.wire.specs.Fields.{KnownFields, known_names, wide, whole, given, object_of}

-- the fields of tags
abbrev pub tag_fields : KnownFields
tag_fields =
    (codes "user_data_128", Digits128) ∷ (codes "user_data_64", Digits64)
    ∷ (codes "user_data_32", WholeBelow (2 ^ 32)) ∷ (codes "ledger", WholeBelow (2 ^ 32))
    ∷ (codes "code", WholeBelow (2 ^ 16)) ∷ []

-- the tags of these fields, if each of them is good; in a query 0 asks for any value
unfoldable pub tags_from : Data → Option Tags
tags_from d =
    given (wide (2 ^ 128) (get (codes "user_data_128") d)) (λ user_data_128.
    given (wide (2 ^ 64) (get (codes "user_data_64") d)) (λ user_data_64.
    given (whole (2 ^ 32) (get (codes "user_data_32") d)) (λ user_data_32.
    given (whole (2 ^ 32) (get (codes "ledger") d)) (λ ledger.
    given (whole (2 ^ 16) (get (codes "code") d)) (λ code.
    Some (record {
      user_data_128 = user_data_128;
      user_data_64 = user_data_64;
      user_data_32 = user_data_32;
      ledger = ledger;
      code = code;
    }))))))

-- the fields of an account event
abbrev pub account_fields : KnownFields
account_fields =
    tag_fields
    ++ (codes "id", Digits128) ∷ (codes "debits_pending", Digits128)
    ∷ (codes "debits_posted", Digits128) ∷ (codes "credits_pending", Digits128)
    ∷ (codes "credits_posted", Digits128) ∷ (codes "flags", WholeBelow (2 ^ 16))
    ∷ (codes "timestamp", Digits64) ∷ []

-- the account event of these fields, if each of them is good
unfoldable pub account_from : Data → Option AccountEvent
account_from d =
    given (tags_from d) (λ tags.
    given (wide (2 ^ 128) (get (codes "id") d)) (λ id.
    given (wide (2 ^ 128) (get (codes "debits_pending") d)) (λ debits_pending.
    given (wide (2 ^ 128) (get (codes "debits_posted") d)) (λ debits_posted.
    given (wide (2 ^ 128) (get (codes "credits_pending") d)) (λ credits_pending.
    given (wide (2 ^ 128) (get (codes "credits_posted") d)) (λ credits_posted.
    given (whole (2 ^ 16) (get (codes "flags") d)) (λ flags.
    given (wide (2 ^ 64) (get (codes "timestamp") d)) (λ timestamp.
    Some (record {
      id = id;
      debits_pending = debits_pending;
      debits_posted = debits_posted;
      credits_pending = credits_pending;
      credits_posted = credits_posted;
      user_data_128 = tags.user_data_128;
      user_data_64 = tags.user_data_64;
      user_data_32 = tags.user_data_32;
      ledger = tags.ledger;
      code = tags.code;
      flags = record { 0 = flags };
      timestamp = timestamp;
    })))))))))

-- the account event that a value is, if it is an object of these fields alone
abbrev pub account_of : Data → Option AccountEvent
account_of d = object_of (known_names account_fields) account_from d

-- the fields of a transfer event
abbrev pub transfer_fields : KnownFields
transfer_fields =
    tag_fields
    ++ (codes "id", Digits128) ∷ (codes "debit_account_id", Digits128)
    ∷ (codes "credit_account_id", Digits128) ∷ (codes "amount", Digits128)
    ∷ (codes "pending_id", Digits128) ∷ (codes "timeout", WholeBelow (2 ^ 32))
    ∷ (codes "flags", WholeBelow (2 ^ 16)) ∷ (codes "timestamp", Digits64) ∷ []

-- the transfer event of these fields, if each of them is good
unfoldable pub transfer_from : Data → Option TransferEvent
transfer_from d =
    given (tags_from d) (λ tags.
    given (wide (2 ^ 128) (get (codes "id") d)) (λ id.
    given (wide (2 ^ 128) (get (codes "debit_account_id") d)) (λ debit_account_id.
    given (wide (2 ^ 128) (get (codes "credit_account_id") d)) (λ credit_account_id.
    given (wide (2 ^ 128) (get (codes "amount") d)) (λ amount.
    given (wide (2 ^ 128) (get (codes "pending_id") d)) (λ pending_id.
    given (whole (2 ^ 32) (get (codes "timeout") d)) (λ timeout.
    given (whole (2 ^ 16) (get (codes "flags") d)) (λ flags.
    given (wide (2 ^ 64) (get (codes "timestamp") d)) (λ timestamp.
    Some (record {
      id = id;
      debit_account_id = debit_account_id;
      credit_account_id = credit_account_id;
      amount = amount;
      pending_id = pending_id;
      user_data_128 = tags.user_data_128;
      user_data_64 = tags.user_data_64;
      user_data_32 = tags.user_data_32;
      timeout = timeout;
      ledger = tags.ledger;
      code = tags.code;
      flags = record { 0 = flags };
      timestamp = timestamp;
    }))))))))))

-- the transfer event that a value is, if it is an object of these fields alone
abbrev pub transfer_of : Data → Option TransferEvent
transfer_of d = object_of (known_names transfer_fields) transfer_from d

-- the fields of the filter of a history
abbrev pub filter_fields : KnownFields
filter_fields =
    (codes "account_id", Digits128) ∷ (codes "timestamp_min", Digits64)
    ∷ (codes "timestamp_max", Digits64) ∷ (codes "flags", WholeBelow 8) ∷ (codes "limit", Limit)
    ∷ []

-- at most 1,000 entries may be asked for, and not none
abbrev pub limit_of : Option Data → Option ℕ
limit_of field = given (whole 1001 field) (λ limit. if nat_lt 0 limit then Some limit else None)

-- the filter of these fields, if each of them is good; no flag bit above the third is
unfoldable pub filter_from : Data → Option AccountFilter
filter_from d =
    given (wide (2 ^ 128) (get (codes "account_id") d)) (λ account_id.
    given (wide (2 ^ 64) (get (codes "timestamp_min") d)) (λ timestamp_min.
    given (wide (2 ^ 64) (get (codes "timestamp_max") d)) (λ timestamp_max.
    given (whole 8 (get (codes "flags") d)) (λ flags.
    given (limit_of (get (codes "limit") d)) (λ limit.
    Some (record {
      account_id = account_id;
      timestamp_min = timestamp_min;
      timestamp_max = timestamp_max;
      limit = limit;
      flags = record { 0 = flags };
    }))))))

-- the filter that a value is, if it is an object of these fields alone
abbrev pub filter_of : Data → Option AccountFilter
filter_of d = object_of (known_names filter_fields) filter_from d

-- the fields of a page
abbrev pub page_fields : KnownFields
page_fields =
    (codes "timestamp_min", Digits64) ∷ (codes "timestamp_max", Digits64)
    ∷ (codes "limit", Limit) ∷ (codes "flags", WholeBelow 2) ∷ []

-- the page of these fields, if each of them is good; no flag bit above the first is
unfoldable pub page_from : Data → Option PageFilter
page_from d =
    given (wide (2 ^ 64) (get (codes "timestamp_min") d)) (λ timestamp_min.
    given (wide (2 ^ 64) (get (codes "timestamp_max") d)) (λ timestamp_max.
    given (limit_of (get (codes "limit") d)) (λ limit.
    given (whole 2 (get (codes "flags") d)) (λ flags.
    Some (record {
      timestamp_min = timestamp_min;
      timestamp_max = timestamp_max;
      limit = limit;
      flags = record { 0 = flags };
    })))))

-- the page that a value is, if it is an object of these fields alone
abbrev pub page_of : Data → Option PageFilter
page_of d = object_of (known_names page_fields) page_from d

-- all fields that a query may have
abbrev pub query_fields : KnownFields
query_fields = tag_fields ++ page_fields

-- the query of these fields, if each of them is good
unfoldable pub query_from : Data → Option QueryFilter
query_from d =
    given (tags_from d) (λ tags.
    given (page_from d) (λ page.
    Some (record { tags = tags; page = page })))

-- the query that a value is, if it is an object of these fields alone
abbrev pub query_of : Data → Option QueryFilter
query_of d = object_of (known_names query_fields) query_from d
