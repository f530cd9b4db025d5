-- The file of a graph's tables, and that it loads as the same graph.
use Rattle.std.proofs.Common.{◌≡◌, ℕ, ◌+◌, ◌<◌, ◌≤◌, leb, List, [], ◌∷◌, ◌++◌, map, length, get_or, take, drop, Some, Ok, Err, Result, sym, refl, ap, ◌∙◌, arith}
use Rattle.std.proofs.lemmas.List.{length-append, length-map, length-drop}
use Rattle.std.proofs.lemmas.Bool.{and_parts, leb-true}
use Rattle.model.specs.declared.Wire.{Wire}
use Rattle.model.specs.Circuit.{Circuit, Ranged, ◌∈◌, gates, live}
use Rattle.refusals.specs.declared.LoadRefusal.{LoadRefusal}
use Rattle.words.specs.Netlist.{Netlist}
use Rattle.words.specs.Layout.{gate_word, clock_word, end_word}
use Rattle.writer.specs.Writing.{body_of, Tabled, FileIn}
use Rattle.writer.proofs.Putting.{length_body}
use Rattle.file.proofs.Single.{one_meaning}
use Rattle.graph.specs.declared.graph.Graph.{Graph}
use Rattle.graph.specs.Tables.{Ticks}
use Rattle.graph.specs.Reads.{circuit}
use Rattle.graph.specs.Loading.{LoadsAs}
use Rattle.graph.specs.Writing.{netlist_of, needed, Written, Same, Again}
use Rattle.graph.proofs.Holds.{circuit_sound, all_join}

ticks_range : (clock : ℕ) → Ticks (Some clock) → (1 ≤ clock) × (clock < 0x100_0000)
ticks_range clock e =
    let a = and_parts (leb 1 clock) (leb clock 16777215) e in
    let b = leb-true clock 16777215 a.1 in
    (leb-true 1 clock a.0, omega arith)

-- the host's delay and the others'
split_host : (ds : List ℕ) → 0 < length ds → get_or ds 0 0 ≡ 0 → 0 ∷ drop 1 ds ≡ ds
split_host [] h e = absurd (omega arith)
split_host (d ∷ ds) h e = ap (λ (x : ℕ). x ∷ ds) (sym e)

pub tabled : (g : Graph) → gates (circuit g) ≤ 128 → length (circuit g).wires ≤ 512 → ((w : Wire) → w ∈ live (circuit g) → Ranged w) → (clock : ℕ) → Ticks (Some clock) → Tabled (drop 1 (circuit g).delays) (circuit g).wires clock
tabled g few held ranged clock t =
    let sound = circuit_sound g in
    let host = sound.host in
    let l = length-drop 1 (circuit g).delays in
    let n = length (drop 1 (circuit g).delays) in
    let r = ticks_range clock t in
    record {
      few = omega arith;
      held = held;
      joins = all_join n (live (circuit g)) ranged (λ w m. let j = sound.joined w m in ((let a = j.0 in omega arith), (let a = j.1 in omega arith)));
      ticks = r.0;
      limit = r.1;
    }

-- how long the file is
pub file_length : (g : Graph) (clock n : ℕ) (old out : List ℕ) → FileIn (netlist_of (circuit g) clock) old n out → n ≡ needed (circuit g)
file_length g clock n old out f =
    let ds = drop 1 (circuit g).delays in
    let vs = live (circuit g) in
    let tail = clock_word clock ∷ end_word (length ds + length (body_of vs) + 1) ∷ [] in
    let a = length-append (map gate_word ds) (body_of vs ++ tail) in
    let b = length-append (body_of vs) tail in
    let c = length-map ds gate_word in
    let d = length_body vs in
    let e = length-drop 1 (circuit g).delays in
    let h = f.long in
    omega arith

-- ---- loaded again
taken_as : (g : Graph) (old : List ℕ) (n : ℕ) (out : List ℕ) → Written g old n out → (u v : Graph) (r : Result Unit LoadRefusal) → LoadsAs (take n out) u r v → (r ≡ Ok tt) × Same g v
taken_as g old n out w u v (Ok x) l =
    let m = netlist_of (circuit g) w.clock in
    let e : l.netlist ≡ m = one_meaning.one_reading (take n out) l.netlist m l.spelled w.file.reads in
    let host = split_host (circuit g).delays g.some g.idle in (
      refl,
      record {
        gates = ap (λ (c : Circuit). c.delays) l.held.graph ∙ ap (λ (s : Netlist). 0 ∷ s.delays) e ∙ host;
        wires = ap (λ (c : Circuit). c.wires) l.held.graph ∙ ap (λ (s : Netlist). map Some s.wires) e;
        clock = l.held.clock ∙ ap (λ (s : Netlist). Some s.clock) e ∙ sym w.clocked;
      },
    )
taken_as g old n out w u v (Err f) l = absurd (one_meaning.no_fault (take n out) f (netlist_of (circuit g) w.clock) l.fault w.file.reads)

pub again : Again
again g old n out w u v r l = taken_as g old n out w u v r l.outcome
