use Rattle.std.proofs.Common.{List, ℕ, Ok, Err, refl, subst}
use Rattle.std.specs.Io.KnownBytes.{Appends}
use Rattle.sqlite_wal.specs.Files.{image_at}
use Rattle.tenants.specs.KeyText.{key_of}
use Rattle.command_line.specs.Values.{text_in}
use Rattle.command_texts.specs.Words.{IsDigestOfKey}
use Rattle.commands.specs.Changing.{TellsChange, change_line}
use Rattle.commands.specs.Holding.{HasOpened, HasToldOr}
use Rattle.commands.specs.OverFiles.{HasMade}
use Rattle.commands.proofs.HeldLemmas.{is_key, lines_told}
use Rattle.commands.proofs.UndoneLemmas.{no_key, not_made}
use Rattle.commands.proofs.over_tenants.run_change.Goals as goal

pub returns : goal.returns
returns g c =
    let given = c.in_ok-key.ensures.given in
    let hashed = subst
    (λ (text : List ℕ). IsDigestOfKey (key_of text) (Ok c.in_ok-digest.digest))
    c.as_str.ensures c.in_ok-digest.ensures in
    let same = c.in_ok-tenant.ensures.same in
    record {
      name_first = λ none. absurd (none (c.in_ok-tenant.ensures.good.0 refl));
      key_next = λ named none. absurd (is_key _ c.in_ok-key.key c.in_ok-digest.digest given hashed none);
      changed = record {
        given = c.in_ok-key.key;
        line = (
          given,
          lines_told _ _ _ (change_line c.args.what c.args.tenant.now) c.in_ok-key.key
              (subst
              (λ (name : List ℕ). Appends (g.O.Drain.written c.args.out)
              (g.O.Drain.written c.put.new.out) (change_line c.args.what name))
              same c.in_ok-put.ensures.ok)
              c.in_ok-tell.ensures.told,
        );
        made = (
          c.in_ok-digest.digest,
          hashed,
          subst
              (λ (text : List ℕ). HasToldOr (TellsChange c.args.what c.args.tenant.now text)
              (HasOpened (HasMade (image_at g.St.Start) c.args.what (text_in c.in_ok-made.made)
              c.args.tenant.now c.in_ok-digest.digest))
              c.in_ok-made.held)
              c.as_str-2.ensures
              (subst
              (λ (name : List ℕ). HasToldOr (TellsChange c.args.what name c.as_str-2.result.now)
              (HasOpened (HasMade (image_at g.St.Start) c.args.what (text_in c.in_ok-made.made) name
              c.in_ok-digest.digest))
              c.in_ok-made.held)
              same c.in_ok-made.ensures.changed),
        );
      };
      calm = refl;
      brief = refl;
      made = c.in_ok-made.ensures.made;
      fault = tt;
    }

pub returns-in_err-made : goal.returns-in_err-made
returns-in_err-made g c =
    not_made _ g.O.Drain.written (image_at g.St.Start) c.args.what c.args.db.now c.args.tenant.now
    c.in_ok-tenant.tenant (text_in c.args.key) c.args.out c.from_residual-in_err-made.result
    c.in_err-made.field-0.0 c.in_ok-key.key c.in_ok-digest.digest c.from_residual-in_err-made.ensures.1
    (c.in_ok-tenant.ensures.good.0 refl) c.in_ok-tenant.ensures.same c.in_ok-key.ensures.given
    (subst (λ (text : List ℕ). IsDigestOfKey (key_of text) (Ok c.in_ok-digest.digest))
    c.as_str.ensures c.in_ok-digest.ensures)
    c.in_err-made.ensures.fault

pub returns-in_err-digest : goal.returns-in_err-digest
returns-in_err-digest g c =
    no_key _ g.O.Drain.written (image_at g.St.Start) c.args.what c.args.db.now c.args.tenant.now
    (text_in c.args.key) c.args.out c.from_residual-in_err-digest.result c.in_err-digest.field-0.0
    c.in_ok-key.key c.from_residual-in_err-digest.ensures.1 (c.in_ok-tenant.ensures.good.0 refl)
    c.in_ok-key.ensures.given
    (subst (λ (text : List ℕ). IsDigestOfKey (key_of text) (Err c.in_err-digest.field-0.0))
    c.as_str.ensures c.in_err-digest.ensures)
