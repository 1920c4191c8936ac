use Rattle.std.proofs.Common.{◌≡◌, Some, ap, append_assoc, codes, rules, string_bytes, sym}
use Rattle.serde_json.specs.View.{view}
use Rattle.command_texts.specs.Lines.{tenant_line}
use Rattle.control.specs.Members.{text_at}
use Rattle.control.proofs.listing.row_line.Goals as goal

pub returns : goal.returns
returns c = record {
  told =
      let name : text_at (codes "name") (view c.args.row.now) ≡ Some c.in_ok-name.name.now = search rules in
      let digest : text_at (codes "digest") (view c.args.row.now) ≡ Some c.in_ok-digest.digest.now = search rules in
      let clock : text_at (codes "clock") (view c.args.row.now) ≡ Some c.in_ok-clock.clock.now = search rules in
      let line : string_bytes c.in_ok-format.field-0 ≡ tenant_line c.in_ok-name.name.now c.in_ok-digest.digest.now c.in_ok-clock.clock.now =
      simp append_assoc c.in_ok-format.ensures.ok in
      rw (name, digest, clock) (ap (λ t. Some t) (sym line));
  fault = tt;
}
