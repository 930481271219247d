use Rattle.std.proofs.Common.{◌≡◌, ℕ, List, take, string_bytes, ap, ◌∙◌}
use Rattle.std.proofs.lemmas.Result.{IfOk-weaker}
use Rattle.info.specs.Texts.{info_text}
use Rattle.info.proofs.Lines.{start_text}
use Rattle.info.proofs.describe_start.Goals as goal

pub returns : goal.returns
returns c =
    IfOk-weaker c.describe.result _ (λ t. (whole : List ℕ) → c.args.start.now ≡ take 1622 whole → string_bytes t ≡ info_text whole)
    (λ t h whole e. h ∙ ap info_text e ∙ start_text whole)
    c.describe.ensures
