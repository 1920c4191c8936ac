use Rattle.std.proofs.Common.{ℕ, Option, Some, None, IsSome, refl, sym, subst}
use Rattle.std.proofs.lemmas.Option.{get_or_from_slice_get}
use Rattle.audit.specs.Order.{IsFirstPlace}
use Rattle.audit.specs.Table.{IsRowOf}
use Rattle.audit.specs.Told.{entries_told}
use Rattle.audit.proofs.RefusedRows.{refused_has_row, first_refused_row}
use Rattle.audit.proofs.replayed.refused_place.Goals as goal

-- a place where there is one
some_place : (P : ℕ → Type 0) (o : Option ℕ) → IsFirstPlace P o → (place : ℕ) × P place → IsSome o
some_place P None none has = absurd (none has.0 has.1)
some_place P (Some place) first has = refl

pub entry-requires : goal.entry-requires
entry-requires c =
    let r = c.requires in
    (entries_told r.0, (r.0, r.1, r.2), r.3.within)

pub unwrap-requires : goal.unwrap-requires
unwrap-requires c =
    let r = c.requires in
    let es = entries_told r.0 in
    let entry = c.entry.result in
    let is = sym (get_or_from_slice_get es c.args.n entry entry (c.entry.ensures es (r.0, r.1, r.2))) in
    some_place (λ place. IsRowOf r.0 place entry) c.place_of.result (c.place_of.ensures r.0 r.1) (refused_has_row r.0 es c.args.n entry refl r.3 is)

pub returns : goal.returns
returns c typed tells places first =
    let es = entries_told typed in
    let entry = c.entry.result in
    let is = sym (get_or_from_slice_get es c.args.n entry entry (c.entry.ensures es (typed, tells, places))) in
    first_refused_row typed es c.args.n entry c.unwrap.result refl first is
    (subst (IsFirstPlace (λ place. IsRowOf typed place entry)) c.unwrap.ensures (c.place_of.ensures typed tells))
