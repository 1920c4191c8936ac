use Rattle.std.proofs.Common.{◌≡◌, ◌++◌, sym, ap, ◌∙◌}
use Rattle.sha2.specs.Sha256.{sha256}
use Rattle.seals.specs.Seals.{text_of}
use Rattle.seals.proofs.seal.Seal.next.Goals as goal

pub returns : goal.returns
returns c =
    c.finalize.ensures _ (c.add_record.ensures _ (c.update.ensures _ c.new-hasher.ensures))
    ∙ ap (λ seal. sha256 (seal ++ text_of c.args.newest.now)) c.self.view_is
