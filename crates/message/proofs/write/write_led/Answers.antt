-- `message::write::write_led` meets its contract: the message behind the service byte, and then that byte.
use mathlib.Core.Path.{refl}
use Rattle.message.specs.Service.{sort_of}
use Rattle.message.proofs.Led.{spoken-of, leads}
use Rattle.message.proofs.write.write_led.Goals as goal

pub put_service-requires : goal.put_service-requires
put_service-requires g c =
    let (message, h, writes) = c.requires.leads in
    spoken-of h (writes _ _ _ (record { shown = _; shows = refl; left = _; met = c.write-w.ensures; leaves = refl }))

pub returns : goal.returns
returns g c = λ message h writes.
    leads (sort_of c.args.sort) message h c.args.out.now c.min-at.ensures
    (writes _ _ _ (record { shown = _; shows = refl; left = _; met = c.write-w.ensures; leaves = refl })) c.put_service.ensures
