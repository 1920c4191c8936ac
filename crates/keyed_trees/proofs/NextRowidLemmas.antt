-- What is known of the next rowids after a write.
use Rattle.std.proofs.Common.{◌≡◌, ◌≢◌, ℕ, ℤ, Bool, true, false, not, cond, ◌==◌, List, [], ◌∷◌, ◌++◌, Option, Some, None, IfSome, Contains, refl, sym, ap, subst, ◌∙◌, inl, inr}
use Rattle.std.specs.List.{AllByRecursion}
use Rattle.std.specs.Option.{ForSome}
use Rattle.std.proofs.lemmas.Bool.{eqb-false}
use Rattle.std.proofs.lemmas.List.Elements.{All-from_recursion, All-contains}
use Rattle.sqlite_trees.specs.declared.store.Shape.TheVariants.{Table}
use Rattle.sqlite_trees.specs.View.{View, IsClean}
use Rattle.sqlite_rules.specs.Edit.{next_rowid}
use Rattle.keyed_trees.specs.NextRowids.{NextRowid, AreNext, Knows, without}

pub all-after : {A : Type 0} (P : A → Type 0) (xs : List A) (y : A) → AllByRecursion P xs → P y → AllByRecursion P (xs ++ y ∷ [])
all-after P [] y h last = (last, tt)
all-after P (x ∷ xs) y h last = (h.0, all-after P xs y h.1 last)

-- of other tables what was known still is so
pub next_of_others : (v w : View) (table : ℕ) (known : List NextRowid) → w.shape ≡ v.shape → ((t : ℕ) → t ≢ table → v.shape t ≡ Table → w.trees t ≡ v.trees t) → AreNext v known → AreNext w (without table known)
next_of_others v w table [] shape others are = tt
next_of_others v w table (e ∷ known) shape others are = go (e.0 == table) refl (next_of_others v w table known shape others are.1)
  where
    go : (b : Bool) → (e.0 == table) ≡ b → AreNext w (without table known) → AreNext w (cond (not b) (e ∷ without table known) (without table known))
    go true same more = more
    go false other more = ((ap (λ f. f e.0) shape ∙ are.0.0, ap next_rowid (others e.0 (eqb-false e.0 table other) are.0.0) ∙ are.0.1), more)

pub next_known : (w : View) (table : ℕ) (id : ℤ) (known later : List NextRowid) → Knows table id known later → w.shape table ≡ Table → next_rowid (w.trees table) ≡ id → AreNext w (without table known) → AreNext w later
next_known w table id known later (inl is) shape next are = subst (AreNext w) (sym is) (all-after _ (without table known) (table, id) are (shape, next))
next_known w table id known later (inr is) shape next are = subst (AreNext w) (sym is) are

-- the rowid that is known of a table
pub next_there : (v : View) (known : List NextRowid) (table : ℕ) (id : ℤ) → AreNext v known → Contains known (table, id) → next_rowid (v.trees table) ≡ id
next_there v known table id are there = (All-contains (λ (e : NextRowid). (v.shape e.0 ≡ Table) × (next_rowid (v.trees e.0) ≡ e.1)) known (table, id) (All-from_recursion _ known are) there).1

pub next_if_known : (v : View) (known : List NextRowid) (table : ℕ) (found : Option ℤ) → (IsClean v → AreNext v known) → IfSome found (λ id. Contains known (table, id)) → ForSome found (λ id. IsClean v → next_rowid (v.trees table) ≡ id)
next_if_known v known table None are there id is clean = absurd (cc)
next_if_known v known table (Some other) are there id is clean = let same : other ≡ id = cc in next_there v known table other (are clean) there ∙ same
