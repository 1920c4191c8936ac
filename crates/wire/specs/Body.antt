-- What a body means: a list of events or ids, a filter or a query, or why it is none.
use Rattle.std.specs.Prelude.{ℕ, nat_lt, ◌^◌, List, [], ◌∷◌, length, Option, Some, None, option_map}
use Rattle.std.specs.Prelude.{option_and_then, ok_or, Result, Ok, Err, if◌then◌else◌}
use Rattle.std.specs.Str.{is_utf8}
use Rattle.serde_json.specs.Data.{Data, Items, no_items, item}
use Rattle.serde_json.specs.Find.{as_array, as_str}
use Rattle.serde_json.specs.Read.{read}
use Rattle.records.specs.declared.account.AccountEvent.{AccountEvent}
use Rattle.records.specs.declared.filter.AccountFilter.{AccountFilter}
use Rattle.records.specs.declared.query.PageFilter.{PageFilter}
use Rattle.records.specs.declared.query.QueryFilter.{QueryFilter}
use Rattle.records.specs.declared.transfer.TransferEvent.{TransferEvent}
use Rattle.ledger_http.specs.declared.refusal.Refusal.{Refusal}
use Rattle.ledger_http.specs.declared.refusal.Refusal.TheVariants.{BodyNotJson, BadField}
use Rattle.ledger_http.specs.declared.refusal.Refusal.TheVariants.{TooManyEvents}
use Rattle.wire.specs.Fields.{number_below}
use Rattle.wire.specs.KnownObjects.{account_of, transfer_of, filter_of, query_of, page_of}

-- the value that the bytes are as JSON
unfoldable pub json_of : List ℕ → Option Data
json_of body = if is_utf8 body then read body else None

-- what the items mean, if each of them means something
abbrev pub each_of : {E : Type 0} → (Data → Option E) → Items → Option (List E)
each_of meant_by no_items = Some []
each_of meant_by (item d ds) =
    option_and_then (λ e. option_map (λ es. e ∷ es) (each_of meant_by ds)) (meant_by d)

-- a list has at most so many items
abbrev pub at_most : {E : Type 0} → ℕ → List E → Result (List E) Refusal
at_most n items = if nat_lt n (length items) then Err TooManyEvents else Ok items

-- the first of several refusals
abbrev pub and_then : {A B : Type 0} → Result A Refusal → (A → Result B Refusal) → Result B Refusal
and_then (Ok a) follows = follows a
and_then (Err refusal) follows = Err refusal

-- a list: first the value, then its items, then their number
unfoldable pub list_in : {E : Type 0} → (Data → Option E) → List ℕ → Result (List E) Refusal
list_in meant_by body =
    and_then (ok_or (json_of body) BodyNotJson) (λ d.
    and_then (ok_or (option_and_then (each_of meant_by) (as_array d)) BadField) (λ items.
    at_most 1000 items))

-- a batch of transfers
abbrev pub transfers_in : List ℕ → Result (List TransferEvent) Refusal
transfers_in body = list_in transfer_of body

-- a batch of accounts
abbrev pub accounts_in : List ℕ → Result (List AccountEvent) Refusal
accounts_in body = list_in account_of body

-- an id that is looked up is a string of canonical decimal
abbrev pub id_of : Data → Option ℕ
id_of d = option_and_then (number_below (2 ^ 128)) (as_str d)

-- the ids of a lookup
abbrev pub ids_in : List ℕ → Result (List ℕ) Refusal
ids_in body = list_in id_of body

-- one object: first the value, then its fields
abbrev pub object_in : {E : Type 0} → (Data → Option E) → List ℕ → Result E Refusal
object_in meant_by body =
    and_then (ok_or (json_of body) BodyNotJson) (λ d. ok_or (meant_by d) BadField)

-- the filter of a history
abbrev pub filter_in : List ℕ → Result AccountFilter Refusal
filter_in body = object_in filter_of body

-- a query
abbrev pub query_in : List ℕ → Result QueryFilter Refusal
query_in body = object_in query_of body

-- which page of the open holds is asked for
abbrev pub page_in : List ℕ → Result PageFilter Refusal
page_in body = object_in page_of body
