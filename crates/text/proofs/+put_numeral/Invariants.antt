-- The measure is how many digits are asked for.
use Rattle.text.proofs.+put_numeral.Given as goal

abbrev pub decreases-put_numeral : goal.decreases-put_numeral
decreases-put_numeral l = l.most
