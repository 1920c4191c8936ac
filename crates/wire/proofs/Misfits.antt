-- Why a value is not what is asked for.
use Rattle.std.proofs.Common.{◌≡◌, ℕ, List, [], ◌∷◌, ◌++◌, Bool, true, false, Option, Some, None}
use Rattle.std.proofs.Common.{Result, IfErr, Bor, refl, ap, sym, ◌∙◌}
use Rattle.std.specs.Prelude.{cond, is_none, ok_or, option_map}
use Rattle.std.specs.List.{find}
use Rattle.std.specs.Option.{option_map_or, option_or}
use Rattle.std.proofs.lemmas.List.Folds.{find-append}
use Rattle.serde_json.specs.Data.{Data}
use Rattle.serde_json.specs.Find.{get}
use Rattle.ledger_http.specs.declared.refusal.Refusal.TheVariants.{BadField}
use Rattle.wire.specs.declared.misfit.Misfit.{Misfit}
use Rattle.wire.specs.declared.wanted.Wanted.{Wanted}
use Rattle.wire.specs.declared.wanted.Wanted.TheVariants.{Json, Few, KnownName, Object, Digits128}
use Rattle.wire.specs.Body.{id_of}
use Rattle.wire.specs.Fields.{KnownFields, known_names, has_only}
use Rattle.wire.specs.Misfits.{Expected, an_object, an_id, IsBadField, Reason}
use Rattle.wire.specs.Misfits.{at_field, at_value, bad_number, field_of, first_stranger, lacks_number}
use Rattle.wire.specs.Misfits.{no_known_object, reason_of, refusal_of, told_by}

-- the reason names the first stranger
pub a_stranger : (fields : KnownFields) (d : Data) (misfit : Misfit) (name : List ℕ)
    → field_of misfit ≡ Some name → misfit.wanted ≡ KnownName
    → first_stranger (known_names fields) d ≡ Some name
    → no_known_object (known_names fields) d ≡ told_by misfit
a_stranger fields d misfit name field wanted lacks = rw (field, wanted, lacks) refl

-- where there is no number, the field lacks it
pub number_or : (d : Data) (name : Bor (List ℕ)) (wanted : Wanted) (misfit : Misfit)
    (number : Option ℕ) (read : Result ℕ Misfit)
    → read ≡ ok_or number misfit → misfit.field ≡ Some name → misfit.wanted ≡ wanted
    → (number ≡ None → lacks_number wanted (get name.now d) ≡ true)
    → IfErr read (IsBadField name.now wanted d)
number_or d name wanted misfit None read is field as_wanted lacks =
    rw is (ap (option_map (λ n. n.now)) field, as_wanted, lacks refl)
number_or d name wanted misfit (Some n) read is field as_wanted lacks = rw is tt

-- the first bad number of two tables

mapped_or : {A B : Type 0} (f : A → B) (one other : Option A)
    → option_map f (option_or one other) ≡ option_or (option_map f one) (option_map f other)
mapped_or f None other = refl
mapped_or f (Some a) other = refl

bad_number-append : (fields more : KnownFields) (d : Data)
    → bad_number (fields ++ more) d ≡ option_or (bad_number fields d) (bad_number more d)
bad_number-append fields more d =
    ap (option_map (λ f. at_field f.0 f.1)) (find-append (λ f. lacks_number f.1 (get f.0 d)) fields more)
    ∙ mapped_or (λ f. at_field f.0 f.1) _ _

-- in the first of two tables
pub in_first : (fields more : KnownFields) (d : Data) (r : Reason)
    → bad_number fields d ≡ Some r → bad_number (fields ++ more) d ≡ Some r
in_first fields more d r bad =
    bad_number-append fields more d ∙ ap (λ one. option_or one (bad_number more d)) bad

-- behind a table whose numbers are all good
pub after_good : (fields more : KnownFields) (d : Data) (r : Reason)
    → bad_number fields d ≡ None → bad_number more d ≡ Some r
    → bad_number (fields ++ more) d ≡ Some r
after_good fields more d r none bad =
    bad_number-append fields more d ∙ ap (λ one. option_or one (bad_number more d)) none ∙ bad

-- behind a field with a good number
pub after_one : (f : List ℕ × Wanted) (more : KnownFields) (d : Data) (r : Reason)
    → lacks_number f.1 (get f.0 d) ≡ false → bad_number more d ≡ Some r
    → bad_number (f ∷ more) d ≡ Some r
after_one f more d r good bad =
    ap (λ test. option_map (λ g. at_field g.0 g.1)
    (cond test (Some f) (find (λ g. lacks_number g.1 (get g.0 d)) more))) good
    ∙ bad

-- and one with a bad number
pub at_bad : (f : List ℕ × Wanted) (more : KnownFields) (d : Data) (misfit : Misfit)
    → IsBadField f.0 f.1 d misfit → bad_number (f ∷ more) d ≡ Some (told_by misfit)
at_bad f more d misfit (field, wanted, lacks) =
    ap (λ test. option_map (λ g. at_field g.0 g.1)
    (cond test (Some f) (find (λ g. lacks_number g.1 (get g.0 d)) more))) lacks
    ∙ rw (field, wanted) refl

-- each is refused under one name

lacks_as : (wanted : Wanted) (field : Option Data) → lacks_number wanted field ≡ true
    → refusal_of wanted ≡ BadField
lacks_as Json field lacks = cc
lacks_as Few field lacks = cc
lacks_as wanted field lacks = refl

number_step : (f : List ℕ × Wanted) (test : Bool) (rest : Option (List ℕ × Wanted)) (r : Reason)
    → (test ≡ true → refusal_of f.1 ≡ BadField)
    → (option_map (λ g. at_field g.0 g.1) rest ≡ Some r → refusal_of r.wanted ≡ BadField)
    → option_map (λ g. at_field g.0 g.1) (cond test (Some f) rest) ≡ Some r
    → refusal_of r.wanted ≡ BadField
number_step f true rest r now later is =
    let same : at_field f.0 f.1 ≡ r = cc in
    sym (ap (λ (s : Reason). refusal_of s.wanted) same) ∙ now refl
number_step f false rest r now later is = later is

number_as : (fields : KnownFields) (d : Data) (r : Reason) → bad_number fields d ≡ Some r
    → refusal_of r.wanted ≡ BadField
number_as [] d r is = cc
number_as (f ∷ fields) d r is =
    number_step f (lacks_number f.1 (get f.0 d)) _ r (lacks_as f.1 (get f.0 d))
    (number_as fields d r) is

stranger_as : (name : Option (List ℕ))
    → refusal_of (option_map_or (λ n. at_field n KnownName) name (at_value Object)).wanted ≡ BadField
stranger_as None = refl
stranger_as (Some name) = refl

object_as : (fields : KnownFields) (d : Data) (r : Reason) (test : Bool)
    → cond test (bad_number fields d) (Some (no_known_object (known_names fields) d)) ≡ Some r
    → refusal_of r.wanted ≡ BadField
object_as fields d r true is = number_as fields d r is
object_as fields d r false is =
    let same : no_known_object (known_names fields) d ≡ r = cc in
    sym (ap (λ (s : Reason). refusal_of s.wanted) same)
    ∙ stranger_as (first_stranger (known_names fields) d)

id_as : (r : Reason) (test : Bool) → cond test (Some (at_value Digits128)) None ≡ Some r
    → refusal_of r.wanted ≡ BadField
id_as r true is =
    let same : at_value Digits128 ≡ r = cc in sym (ap (λ (s : Reason). refusal_of s.wanted) same)
id_as r false is = cc

pub refused_as : (expected : Expected) (d : Data) (r : Reason)
    → reason_of expected d ≡ Some r → refusal_of r.wanted ≡ BadField
refused_as (an_object fields) d r is = object_as fields d r (has_only (known_names fields) d) is
refused_as an_id d r is = id_as r (is_none (id_of d)) is
