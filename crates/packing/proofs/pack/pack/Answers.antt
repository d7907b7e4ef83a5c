-- `pack::pack` meets its contract. Its end has more behind it than `search` enters, so it goes by its paths. Assumes nothing.
use mathlib.Core.Path.{◌≡◌, ◌∙◌, ap}
use mir.Syntax.{w64}
use mir.Facts.{to_z-of_z}
use Rattle.head.specs.declared.state.Head.{Head}
use Rattle.packing.specs.Packed.{pack_of, unpack_of}
use Rattle.packing.specs.Holds.{Holds}
use Rattle.packing.proofs.Undo.{unpack-pack}
use Rattle.packing.proofs.Puts.{puts-all}
use Rattle.packing.proofs.pack.pack.Goals.{After-put_history}
use Rattle.packing.proofs.pack.pack.Goals as goal

module _ (c : After-put_history) where
  abbrev h : Head
  h = c.args.h

  all : c.put_history.new.ws ≡ pack_of h
  all =
      puts-all
      h
      c.put_settings.ensures.0
      (to_z-of_z {w = w64} {z = h.latest} (record { sfits = c.struct_told-1.given.0.1 }))
      c.put_window.ensures.0
      c.put_base.ensures.0
      c.put_stats.ensures.0
      c.put_rtt.ensures.0
      c.put_arrivals.ensures.0
      c.put_links.ensures.0
      c.put_history.ensures.0

  holds : Holds h
  holds =
      record {
        latest = c.struct_told-1.given.0.1;
        latency = c.put_settings.ensures.1.1;
        window = c.put_window.ensures.1;
        base = c.put_base.ensures.1;
        stats = c.put_stats.ensures.1;
        rtt = c.put_rtt.ensures.1;
        arrivals = c.put_arrivals.ensures.1;
        links = c.put_links.ensures.1;
        history = c.put_history.ensures.1;
      }

pub returns : goal.returns
returns c = (all c, ap unpack_of (all c) ∙ unpack-pack (h c) (holds c))
