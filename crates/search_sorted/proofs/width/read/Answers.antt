use Rattle.std.proofs.Common.{rules, ◌≡◌, ℕ, ◌+◌, ◌*◌, [], ◌∷◌, ◌++◌, drop, get_or, ◌∙◌, arith, get_or-drop}
use Rattle.std.specs.Int.{w64, from_le_bytes}
use Rattle.search_sorted.proofs.Weights.{padded}
use Rattle.search_sorted.proofs.width.read.Goals as goal

zeros : (i : ℕ) → get_or {A = ℕ} (0 ∷ 0 ∷ 0 ∷ 0 ∷ 0 ∷ 0 ∷ 0 ∷ 0 ∷ []) i 0 ≡ 0
zeros i = search rules

pub returns : goal.returns
returns g c =
    let eight : c.from_le_bytes.result ≡ from_le_bytes w64 (c.copy_from_slice.new.self ++ drop g.row.W (0 ∷ 0 ∷ 0 ∷ 0 ∷ 0 ∷ 0 ∷ 0 ∷ 0 ∷ [])) =
    c.from_le_bytes.ensures ∙ grind arith in
    eight
    ∙ padded c.args.bytes.now c.copy_from_slice.new.self _ (g.row.W * c.args.place) g.row.W _ c.requires.width (omega arith) c.requires.within c.copy_from_slice.ensures.after (λ i. get_or-drop g.row.W _ i 0 ∙ zeros (g.row.W + i))
