-- Two graphs that differ in no field are equal: their ghost facts have one proof each.
use Rattle.std.proofs.Common.{◌≡◌, ◌<◌, ◌≤◌, length, get_or}
use mathlib.Core.HLevel.{is_prop→PathP}
use denote.Struct.Props.{props}
use Rattle.graph.specs.declared.graph.Graph.{Graph}
use Rattle.graph.specs.Tables.{Inside, Ceilings, Ticks}

pub same_graph : (s t : Graph) → s.delays ≡ t.delays → s.wires ≡ t.wires → s.registers ≡ t.registers → s.clock ≡ t.clock → s ≡ t
same_graph s t d w r k = λ i.
    record {
      delays = d i;
      wires = w i;
      registers = r i;
      clock = k i;
      some = is_prop→PathP (λ j. 0 < length (d j).items) (λ j. hlevel props) s.some t.some i;
      small = is_prop→PathP (λ j. length (d j).items ≤ 128) (λ j. hlevel props) s.small t.small i;
      short = is_prop→PathP (λ j. length (w j).items ≤ 512) (λ j. hlevel props) s.short t.short i;
      idle = is_prop→PathP (λ j. get_or (d j).items 0 0 ≡ 0) (λ j. hlevel props) s.idle t.idle i;
      paired = is_prop→PathP (λ j. length (r j).items ≡ length (w j).items) (λ j. hlevel props) s.paired t.paired i;
      inside = is_prop→PathP (λ j. Inside (w j).items (length (d j).items)) (λ j. hlevel props) s.inside t.inside i;
      capped = is_prop→PathP (λ j. Ceilings (w j).items) (λ j. hlevel props) s.capped t.capped i;
      ticks = is_prop→PathP (λ j. Ticks (k j)) (λ j. hlevel props) s.ticks t.ticks i;
    }
