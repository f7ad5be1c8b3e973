use Rattle.std.proofs.Common.{rules, ap, ◌∙◌, Some}
use Rattle.explain.specs.declared.words.Closed.{Closed}
use Rattle.explain.specs.declared.words.Open.{Open}
use Rattle.explain.specs.declared.words.Posted.{Posted}
use Rattle.explain.specs.declared.words.Taken.{Taken}
use Rattle.explain.specs.Effects.{effect_words}
use Rattle.explain.specs.Words.{sentence, taken_words, posted_words, closed_words, open_words}
use Rattle.explain.proofs.Sentences.{known, made}
use Rattle.explain.proofs.words.ScanDisplay.fmt.Goals as goal

pub returns-clause-writes : goal.returns-clause-writes
returns-clause-writes g c plain ok =
    let scan = c.args.self.now in
    let taken = made (λ w. record { 0 = w }) (λ (t : Taken). taken_words t.0) scan.note.taken c.map.result (search rules) in
    let posted = made (λ w. record { 0 = w }) (λ (p : Posted). posted_words p.0) scan.note.posted c.map-2.result (search rules) in
    let closed = made (λ w. record { 0 = w }) (λ (t : Closed). closed_words t.0) scan.note.closed c.map-3.result (search rules) in
    let opens = made (λ w. record { word = w; shown = scan.shown }) (λ (o : Open). open_words o.shown o.word) scan.after.«open» c.map-4.result (search rules) in
    let effect = known effect_words c.of.result ∙ ap (λ e. Some (sentence effect_words e)) c.of.ensures in
    let h = simp (c.sensed_in-sensor.ensures, taken, posted, closed, effect, opens) at c.write.ensures.writes in
    h plain ok
