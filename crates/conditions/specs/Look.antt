-- What a look at a product finds.
use Rattle.std.specs.Prelude.{ℕ, Option, option_map}
use Rattle.hazard.specs.Search.{find}
use Rattle.hazard.specs.Cube.{Cube}
use Rattle.hazard.specs.Sets.{Privileged}
use Rattle.hazard.specs.Implicant.{illegal}
use Rattle.context.specs.declared.context.Context.{Context}
use Rattle.context.specs.Context.{privileged_of}

-- The transition of the first privileged cube that a cube meets illegally.
abbrev pub met_in : Context → Cube → Option ℕ
met_in k c = option_map (λ (v : Privileged). v.transition) (find (illegal c) (privileged_of k))
