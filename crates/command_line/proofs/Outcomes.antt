-- What an answer of `clap` to our command line says.
use Rattle.std.proofs.Common.{◌≡◌, ◌∙◌, true, false, Global, List, [], Option, Some, None, ap, ap₂, refl, sym, subst, inl, inr, is_some, true≢false}
use Rattle.std.specs.Prelude.{Box, Err, IfErr, IsErrAnd, Ok, Result, option_map, unwrap_or}
use Rattle.std.specs.Box.{box_value}
use Rattle.clap.specs.Kinds.{HasKind}
use Rattle.clap.specs.Matches.{has_subcommand, subcommand_name_of}
use Rattle.clap.specs.Words.{App, HasMatchesOf, Row, Text, fault_of, is_simple, is_simple_and_free, subcommand_of, subcommand_rows, subcommand_rows_of}
use Rattle.clap.specs.declared.error.Error.{Error}
use Rattle.clap.specs.declared.parser.matches.ArgMatches.{ArgMatches}
use Rattle.clap.specs.declared.parser.matches.ArgMatches.TheViews.{out-ArgMatches, out-SubCommand}
use Rattle.clap.specs.declared.parser.matches.SubCommand.{SubCommand}
use Rattle.clap.specs.declared.error.kind.ErrorKind.{ErrorKind}
use Rattle.clap.specs.declared.error.kind.ErrorKind.TheVariants.{DisplayVersion, OutOfMemory}
use Rattle.clap.specs.Words.{IsAmong}
use Rattle.clap.proofs.OnLiterals.{clap_on_literals}
use Rattle.command_line.specs.Ledgerd.{ledgerd_app}
use Rattle.command_line.specs.Line.{IsCommandOf, IsFaultOf, IsOf, Spells}
use Rattle.command_line.specs.Refusal.{IsFaultBy}
use Rattle.command_line.specs.Values.{IsFilled}
use Rattle.command_line.specs.declared.commands.Command.{Command}
use Rattle.command_line.specs.declared.commands.Command.TheVariants.{Lists}
use Rattle.command_line.specs.declared.fault.LineFault.{LineFault}
use Rattle.command_line.specs.declared.fault.LineFault.TheVariants.{Refused, Version, Memory}
use Rattle.command_line.proofs.Filled.{filled_from}

-- our command line is simple, and none of its options has a rule on another
is_simple_line : is_simple_and_free ledgerd_app ≡ true
unfolding ledgerd_app clap_on_literals
is_simple_line = refl

is_line_simple : is_simple ledgerd_app ≡ true
unfolding ledgerd_app clap_on_literals
is_line_simple = refl

fault_told : (a : App) (words : List Text) (e : Error) (f : LineFault) → a ≡ ledgerd_app
    → (is_simple_and_free a ≡ true → HasKind (fault_of a words) e) → IsFaultBy e f → IsFaultOf words f
fault_told a words e (Refused x) is fails by =
    let kinds : HasKind (fault_of ledgerd_app words) e =
    subst (λ (b : App). HasKind (fault_of b words) e) is (fails (ap is_simple_and_free is ∙ is_simple_line)) in
    elim kinds [
      | inl memory ↦ absurd (by.1 memory)
      | inr among ↦ subst (λ (y : Error). IsFaultOf words (Refused y)) (sym by.0) among
    ]
fault_told a words e Version is fails by =
    let kinds : HasKind (fault_of ledgerd_app words) e =
    subst (λ (b : App). HasKind (fault_of b words) e) is (fails (ap is_simple_and_free is ∙ is_simple_line)) in
    elim kinds [
      | inl memory ↦ let never : OutOfMemory ≡ DisplayVersion = sym memory ∙ by in cc
      | inr among ↦ subst (λ (k : ErrorKind). IsAmong k (fault_of ledgerd_app words)) by among
    ]
fault_told a words e Memory is fails by = tt

pub refusal_told : (T : Type 0) (r : Result T LineFault) (a : App) (words : List Text) (e : Error) → a ≡ ledgerd_app
    → (is_simple_and_free a ≡ true → HasKind (fault_of a words) e) → IsErrAnd r (IsFaultBy e) → IfErr r (IsFaultOf words)
refusal_told T (Ok x) a words e is fails by = tt
refusal_told T (Err f) a words e is fails by = fault_told a words e f is fails by

-- what `clap` states where it takes the words
pub record Stated (words : List Text) (m : ArgMatches) : Type 0 where
  pub taken : fault_of ledgerd_app words ≡ []
  pub met : subcommand_rows_of m ≡ subcommand_of ledgerd_app words

pub stated : (a : App) (words : List Text) (m : ArgMatches) → a ≡ ledgerd_app → (is_simple_and_free a ≡ true → fault_of a words ≡ []) → HasMatchesOf a words m
    → Stated words m
stated a words m is taken matches = record {
  taken = subst (λ (b : App). fault_of b words ≡ []) is (taken (ap is_simple_and_free is ∙ is_simple_line));
  met = (matches (ap is_simple is ∙ is_line_simple)).1 ∙ ap (λ (b : App). subcommand_of b words) is;
}

none_in : (o : Option (Box SubCommand Global)) → false ≡ is_some o → subcommand_rows o ≡ None
none_in None e = refl
none_in (Some b) e = absurd (true≢false (sym e))

none_met : (m : ArgMatches) → false ≡ has_subcommand m → subcommand_rows_of m ≡ None
none_met m e = none_in (out-ArgMatches m).subcommand e

met_in : (o : Option (Box SubCommand Global)) (name : Text) (rows : List Row) → Some name ≡ option_map (λ b. (out-SubCommand (box_value b)).name.now) o
    → Some rows ≡ option_map (λ p. p.1) (subcommand_rows o) → subcommand_rows o ≡ Some (name, rows)
met_in None name rows is_name are_rows = absurd (true≢false (ap is_some is_name))
met_in (Some b) name rows is_name are_rows =
    let n = ap (λ (x : Option Text). unwrap_or x name) is_name in
    let r = ap (λ (x : Option (List Row)). unwrap_or x rows) are_rows in
    ap₂ (λ (x : Text) (y : List Row). Some (x, y)) (sym n) (sym r)

pub no_command : (words : List Text) (m : ArgMatches) → Stated words m → false ≡ has_subcommand m → IsCommandOf words Lists
no_command words m s e =
    record { taken = s.taken; stated = subst (λ (o : Option (Text × List Row)). IsOf o Lists) (sym (none_met m e) ∙ s.met) refl }

pub met_is : (m : ArgMatches) (name : Text) (rows : List Row) → Some name ≡ subcommand_name_of m → Some rows ≡ option_map (λ p. p.1) (subcommand_rows_of m)
    → subcommand_rows_of m ≡ Some (name, rows)
met_is m name rows is_name are_rows = met_in (out-ArgMatches m).subcommand name rows is_name are_rows

pub filled : (words : List Text) (m : ArgMatches) (name : Text) (rows : List Row) → Stated words m → Some name ≡ subcommand_name_of m
    → Some rows ≡ option_map (λ p. p.1) (subcommand_rows_of m) → IsFilled name rows
filled words m name rows s is_name are_rows = filled_from words s.taken (name, rows) (sym s.met ∙ met_is m name rows is_name are_rows)

pub one_command : (words : List Text) (m : ArgMatches) (name : Text) (rows : List Row) (c : Command) → Stated words m → Some name ≡ subcommand_name_of m
    → Some rows ≡ option_map (λ p. p.1) (subcommand_rows_of m) → Spells name rows c → IsCommandOf words c
one_command words m name rows c s is_name are_rows spells = record {
  taken = s.taken;
  stated = subst (λ (o : Option (Text × List Row)). IsOf o c) (sym (met_is m name rows is_name are_rows) ∙ s.met) spells;
}
