-- The name of a subcommand tells which values are there.
use Rattle.std.proofs.Common.{◌≡◌, ◌∙◌, List, sym, inl, inr, ap, codes, true≢false}
use Rattle.std.specs.Str.{bytes_eq}
use Rattle.clap.specs.Words.{Row, Text}
use Rattle.command_line.specs.Values.{FillsServe, IsFilledOver}

-- of serve, those of serve
pub fills_serve : (name : Text) (rows : List Row) → IsFilledOver name rows → name ≡ codes "serve" → FillsServe rows
fills_serve name rows (inl met) is = met.1
fills_serve name rows (inr (inl met)) is = absurd (true≢false (ap (λ n. bytes_eq n (codes "serve")) (sym is ∙ met.0)))
fills_serve name rows (inr (inr (inl met))) is = absurd (true≢false (ap (λ n. bytes_eq n (codes "serve")) (sym is ∙ met.0)))
fills_serve name rows (inr (inr (inr (inl met)))) is = absurd (true≢false (ap (λ n. bytes_eq n (codes "serve")) (sym is ∙ met)))
fills_serve name rows (inr (inr (inr (inr (inl met))))) is = absurd (true≢false (ap (λ n. bytes_eq n (codes "serve")) (sym is ∙ met.0)))
fills_serve name rows (inr (inr (inr (inr (inr (inl met)))))) is = absurd (true≢false (ap (λ n. bytes_eq n (codes "serve")) (sym is ∙ met)))
fills_serve name rows (inr (inr (inr (inr (inr (inr (inl met))))))) is = absurd (true≢false (ap (λ n. bytes_eq n (codes "serve")) (sym is ∙ met.0)))
fills_serve name rows (inr (inr (inr (inr (inr (inr (inr (inl met)))))))) is = absurd (true≢false (ap (λ n. bytes_eq n (codes "serve")) (sym is ∙ met)))
fills_serve name rows (inr (inr (inr (inr (inr (inr (inr (inr (inl met))))))))) is = absurd (true≢false (ap (λ n. bytes_eq n (codes "serve")) (sym is ∙ met.0)))
fills_serve name rows (inr (inr (inr (inr (inr (inr (inr (inr (inr met))))))))) is = absurd (true≢false (ap (λ n. bytes_eq n (codes "serve")) (sym is ∙ met.0)))
