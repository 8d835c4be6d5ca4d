-- `listing::put_form` meets its contract.
use Rattle.listing.specs.Listing as listing
use Rattle.text.proofs.Puts.{puts-as}
use mathlib.Core.Path.{sym, ap}
use Rattle.listing.proofs.put_form.Goals as goal

pub returns-in-Whole : goal.returns-in-Whole
returns-in-Whole c = puts-as (sym (ap listing.form_text c.in-Whole.is)) c.put_text.ensures
