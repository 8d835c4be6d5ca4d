-- `listing::put_shown` meets its contract.
use Rattle.operands.specs.Operands.{operands_text}
use Rattle.listing.specs.Listing as listing
use Rattle.text.proofs.Puts.{puts_then, room-left, room-right}
use Rattle.text.specs.Text.{bytes}
use Rattle.listing.proofs.put_shown.Goals as goal

pub put_name-form_at-requires : goal.put_name-form_at-requires
put_name-form_at-requires c = room-left (listing.form_text c.args.s.form) (room-left (bytes " ") (room-left (operands_text c.args.s.a c.args.s.b c.args.s.c c.args.s.d) c.requires))

pub put_form-blank_at-requires : goal.put_form-blank_at-requires
put_form-blank_at-requires c = room-right c.put_name-form_at.ensures (room-left (bytes " ") (room-left (operands_text c.args.s.a c.args.s.b c.args.s.c c.args.s.d) c.requires))

pub put_byte-first_at-requires : goal.put_byte-first_at-requires
put_byte-first_at-requires c = room-right (puts_then c.put_name-form_at.ensures c.put_form-blank_at.ensures) (room-left (operands_text c.args.s.a c.args.s.b c.args.s.c c.args.s.d) c.requires)

pub put_operands-requires : goal.put_operands-requires
put_operands-requires c = room-right (puts_then (puts_then c.put_name-form_at.ensures c.put_form-blank_at.ensures) c.put_byte-first_at.ensures) c.requires

pub returns : goal.returns
returns c = puts_then (puts_then (puts_then c.put_name-form_at.ensures c.put_form-blank_at.ensures) c.put_byte-first_at.ensures) c.put_operands.ensures
