-- `messages::layout::emit_around` meets its contract: three parts written one after another are written as one.
use mathlib.Core.Path.{◌≡◌, ◌∙◌}
use mathlib.Core.List.{◌++◌}
use Prim.Native.Nat.{◌+◌}
use native.Mathlib.Omega.{arith}
use lib.ListN.{length, length-append}
use Rattle.octets.specs.Octets.{splice}
use Rattle.octets.proofs.Octets.{splice_three}
use Rattle.messages.proofs.layout.emit_around.Goals as goal

pub returns : goal.returns
returns c =
    let a = c.args in
    let h = a.head.now in
    let m = a.params.now in
    let t = a.tail.now in
    let long : length h + length m + length t ≡ length (h ++ (m ++ t)) = simp length-append (omega arith) in
    record {
      head = λ i. record { gid = a.gid; oid = a.oid; len = long i };
      octets =
          c.put-3.ensures
          ∙ (λ i. splice ((c.put-2.ensures ∙ (λ j. splice (c.put.ensures j) (length h) m)) i) (length h + length m) t)
          ∙ splice_three a.out.now h m t;
    }
