-- What a loaded graph tells of the netlist.
use Rattle.std.proofs.Common.{◌≡◌, List, [], ◌∷◌, map, Some, refl, ap}
use Rattle.model.specs.declared.Wire.{Wire}
use Rattle.model.specs.Circuit.{kept}

pub kept_all : (ws : List Wire) → kept (map Some ws) ≡ ws
kept_all [] = refl
kept_all (w ∷ ws) = ap (λ (vs : List Wire). w ∷ vs) (kept_all ws)
