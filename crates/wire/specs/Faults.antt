-- What is told of a body that the service refuses.
use Rattle.std.specs.Prelude.{ℕ, ◌+◌, nat_lt, List, Option, None, Some, is_some, option_map}
use Rattle.std.specs.Prelude.{option_and_then, Result, if◌then◌else◌}
use Rattle.std.specs.Option.{option_map_or}
use Rattle.std.specs.Result.{result_err}
use Rattle.serde_json.specs.Data.{Data, Items}
use Rattle.serde_json.specs.Events.{items_len}
use Rattle.serde_json.specs.Find.{as_array, get_item}
use Rattle.ledger_http.specs.declared.refusal.Refusal.{Refusal}
use Rattle.ledger_http.specs.declared.route.Route.{Route}
use Rattle.ledger_http.specs.declared.route.Route.TheVariants as route
use Rattle.wire.specs.declared.body_fault.BodyFault.{BodyFault}
use Rattle.wire.specs.declared.wanted.Wanted.{Wanted}
use Rattle.wire.specs.declared.wanted.Wanted.TheVariants.{Json, List as AList, Few}
use Rattle.wire.specs.KnownObjects.{account_of, account_fields, transfer_of, transfer_fields}
use Rattle.wire.specs.KnownObjects.{filter_of, filter_fields, query_of, query_fields}
use Rattle.wire.specs.KnownObjects.{page_of, page_fields}
use Rattle.wire.specs.Body.{accounts_in, transfers_in, ids_in, filter_in, query_in, page_in}
use Rattle.wire.specs.Body.{json_of, id_of}
use Rattle.wire.specs.Fields.{KnownFields}
use Rattle.wire.specs.Misfits.{Expected, an_object, an_id, Reason, at_value, reason_of, first_bad}
use Rattle.wire.specs.Misfits.{refusal_of}

-- with what something is refused, if it is
abbrev pub refused : {A : Type 0} → Result A Refusal → Option Refusal
refused read = result_err read

-- with what a body is refused on a route, if it is; of a statement it is not looked at
abbrev pub refusal_in : Route → List ℕ → Option Refusal
refusal_in route.Accounts body = refused (accounts_in body)
refusal_in route.Transfers body = refused (transfers_in body)
refusal_in route.LookupAccounts body = refused (ids_in body)
refusal_in route.LookupTransfers body = refused (ids_in body)
refusal_in route.HistoryTransfers body = refused (filter_in body)
refusal_in route.HistoryBalances body = refused (filter_in body)
refusal_in route.QueryAccounts body = refused (query_in body)
refusal_in route.QueryTransfers body = refused (query_in body)
refusal_in route.LookupPending body = refused (ids_in body)
refusal_in route.OpenPending body = refused (page_in body)
refusal_in route.Statement body = None
refusal_in route.LintAccounts body = refused (accounts_in body)
refusal_in route.LintTransfers body = refused (transfers_in body)

-- a fault for this reason: of an event or id, or of the body itself
abbrev pub fault_for : Option ℕ → Reason → BodyFault
fault_for event reason =
    record { event = event; field = reason.field; wanted = reason.wanted }

abbrev pub of_body : Wanted → BodyFault
of_body wanted = fault_for None (at_value wanted)

-- the fault of the item at a place; events and ids are counted from 1
abbrev pub fault_at : Expected → Items → ℕ → Option BodyFault
fault_at expected items place =
    option_and_then (λ d. option_map (fault_for (Some (place + 1))) (reason_of expected d))
    (get_item place items)

-- that items are too many
abbrev pub too_many : Items → Option BodyFault
too_many items = if nat_lt 1000 (items_len items) then Some (of_body Few) else None

-- the fault of items: that of the first that means nothing, or else that they are too many
abbrev pub items_fault :
    {E : Type 0} → (Data → Option E) → Expected → Items → Option BodyFault
items_fault meant_by expected items =
    option_map_or (fault_at expected items) (first_bad meant_by 0 items) (too_many items)

-- the fault of a body that is to be a list: first the value, then its items, then their number
abbrev pub list_fault :
    {E : Type 0} → (Data → Option E) → Expected → List ℕ → Option BodyFault
list_fault meant_by expected body =
    option_map_or
    (λ d. option_map_or (items_fault meant_by expected) (as_array d) (Some (of_body AList)))
    (json_of body) (Some (of_body Json))

-- the fault of a value that is to be an object of these fields
abbrev pub value_fault : {E : Type 0} → (Data → Option E) → KnownFields → Data → Option BodyFault
value_fault meant_by fields d =
    if is_some (meant_by d) then None
    else option_map (fault_for None) (reason_of (an_object fields) d)

-- the same of a body
abbrev pub object_fault :
    {E : Type 0} → (Data → Option E) → KnownFields → List ℕ → Option BodyFault
object_fault meant_by fields body =
    option_map_or (value_fault meant_by fields) (json_of body) (Some (of_body Json))

-- the fault of a body on a route, if it is refused there
abbrev pub fault_on : Route → List ℕ → Option BodyFault
fault_on route.Accounts body = list_fault account_of (an_object account_fields) body
fault_on route.Transfers body = list_fault transfer_of (an_object transfer_fields) body
fault_on route.LookupAccounts body = list_fault id_of an_id body
fault_on route.LookupTransfers body = list_fault id_of an_id body
fault_on route.HistoryTransfers body = object_fault filter_of filter_fields body
fault_on route.HistoryBalances body = object_fault filter_of filter_fields body
fault_on route.QueryAccounts body = object_fault query_of query_fields body
fault_on route.QueryTransfers body = object_fault query_of query_fields body
fault_on route.LookupPending body = list_fault id_of an_id body
fault_on route.OpenPending body = object_fault page_of page_fields body
fault_on route.Statement body = None
fault_on route.LintAccounts body = list_fault account_of (an_object account_fields) body
fault_on route.LintTransfers body = list_fault transfer_of (an_object transfer_fields) body

-- the refusal of a fault
abbrev pub told_refusal : Option BodyFault → Option Refusal
told_refusal fault = option_map (λ f. refusal_of f.wanted) fault
