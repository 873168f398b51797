use Rattle.std.proofs.Common.{◌∙◌, refl, inr}
use Rattle.csv_context.proofs.Texts.{no-mark-text}
use Rattle.csv_context.proofs.records.open.Goals as goal

pub returns-clause-open : goal.returns-clause-open
returns-clause-open c =
    let from = c.from_reader.ensures in
    let e = c.flexible.ensures ∙ refl in
    let h = c.has_headers.ensures in
    record {
      plain = rw (e, h) at from.trim ∙ c.new.ensures.trim;
      ready = inr (inr (rw (e, h) at from.has_headers, from.headers));
      settings = rw (e, h) at from.config ∙ c.new.ensures.config;
      between = rw from.state refl;
      text = rw from.source (no-mark-text c.as_bytes.result.now c.as_bytes.ensures.utf8);
    }
