-- The page, and what changes with it. Made of console/page.html by console/constant.py.
use Rattle.std.specs.Prelude.{ℕ, List, codes}

-- how many bytes the page has
abbrev pub page_length : ℕ
page_length = 75571

-- what its policy allows its script and its style by
abbrev pub script_digest : List ℕ
script_digest = codes "'sha256-EVoiNFD8vhnnX2T2DayBABla+BAfDMOkJ+6sxrdK1+4='"

abbrev pub style_digest : List ℕ
style_digest = codes "'sha256-wFjbm9/vF9qKBWbGoj51I5Vl+wzfpdbJl8MJiccOyxs='"

-- the page
unfoldable pub page_text : List ℕ
page_text = codes "<!doctype html>\n<html lang=\"en\">\n<head>\n<meta charset=\"utf-8\">\n<title>Ledger console</title>\n<meta name=\"viewport\" content=\"width=device-width, initial-scale=1\">\n<meta name=\"color-scheme\" content=\"light dark\">\n<meta name=\"referrer\" content=\"no-referrer\">\n<link rel=\"icon\" href=\"data:,\">\n<style>\n:root {\n  color-scheme: light dark;\n  --paper: #fff;\n  --tint: #f2f4f7;\n  --ink: #1b1f24;\n  --soft: #56606b;\n  --rule: #cfd6dd;\n  --mark: #0a58a8;\n  --on-mark: #fff;\n  --good: #14692f;\n  --bad: #ad1f17;\n}\n@media screen and (prefers-color-scheme: dark) {\n  :root {\n    --paper: #14171b;\n    --tint: #1f242a;\n    --ink: #e7eaee;\n    --soft: #a9b3be;\n    --rule: #3a424b;\n    --mark: #82b8f2;\n    --on-mark: #0d1116;\n    --good: #7fd49a;\n    --bad: #ff9c94;\n  }\n}\n* { box-sizing: border-box; }\n[hidden] { display: none !important; }\nbody {\n  margin: 0;\n  background: var(--paper);\n  color: var(--ink);\n  font: 1rem/1.5 system-ui, \"Liberation Sans\", sans-serif;\n}\na { color: var(--mark); }\nh1 { margin: 0; font-size: 1.25rem; }\nh2 { margin: 0.75rem 0 0.5rem; font-size: 1.375rem; }\nh3 { margin: 1.5rem 0 0.25rem; font-size: 1.125rem; }\nh2:focus, main:focus { outline: none; }\n:focus-visible, input:focus-within { outline: 3px solid var(--mark); outline-offset: 2px; }\n.skip { position: absolute; left: -99rem; }\n.skip:focus { left: 0.5rem; top: 0.5rem; padding: 0.5rem; background: var(--paper); }\nheader, main { max-width: 84rem; margin: 0 auto; padding: 0.75rem 1rem; }\nheader { border-bottom: 1px solid var(--rule); }\n.row, nav { display: flex; flex-wrap: wrap; gap: 0.5rem 0.75rem; align-items: end; }\nheader .row, .bar { justify-content: space-between; align-items: center; }\nnav { gap: 0.25rem; margin-top: 0.25rem; }\nnav a { padding: 0.375rem 0.75rem; border-radius: 0.375rem; text-decoration: none; }\nnav a[aria-current] { background: var(--mark); color: var(--on-mark); }\nform, .search { margin: 0.75rem 0; }\nlabel { display: block; flex: 1 1 11rem; color: var(--soft); }\nlabel.check { display: flex; gap: 0.5rem; align-items: center; margin: 0.75rem 0; }\ninput, select, button { font: inherit; min-height: 2.5rem; border-radius: 0.375rem; }\ninput, select {\n  display: block;\n  width: 100%;\n  padding: 0.25rem 0.5rem;\n  border: 1px solid var(--soft);\n  background: var(--paper);\n  color: var(--ink);\n}\n.check input { width: 1.5rem; accent-color: var(--mark); }\ninput[aria-invalid=\"true\"] { border: 2px solid var(--bad); }\nbutton {\n  padding: 0.25rem 1rem;\n  border: 1px solid var(--mark);\n  background: none;\n  color: var(--mark);\n  cursor: pointer;\n}\nbutton:not([type]) { background: var(--mark); color: var(--on-mark); }\nbutton[aria-pressed=\"true\"]::before { content: \"\\2713\\a0\"; }\nth button { padding: 0; min-height: 1.5rem; border: 0; background: none; color: var(--mark);\n  font-weight: 600; text-align: inherit; }\nth[aria-sort=\"ascending\"] button::after { content: \"\\a0\\25b2\"; }\nth[aria-sort=\"descending\"] button::after { content: \"\\a0\\25bc\"; }\n.bar { min-height: 2.5rem; flex-wrap: nowrap; }\n#told, #wrong { margin: 0.25rem 0; }\n#wrong:empty { display: none; }\n#wrong { color: var(--bad); font-weight: 600; }\n/* A short wait shows no button. */\n#again { flex: none; }\n#stop { flex: none; animation: 0.6s step-end appear; }\n@keyframes appear { from { opacity: 0; } }\n.hint, caption, small, figcaption { color: var(--soft); }\n.good { color: var(--good); }\n.bad { color: var(--bad); }\n.id span:not(:last-of-type) { margin-inline-end: 0.2em; }\n.scroll { overflow-x: auto; }\ntable { width: 100%; border-collapse: collapse; font-size: 0.9375rem; }\ntable, dd, svg { font-variant-numeric: tabular-nums; }\ncaption { padding: 0.25rem 0; text-align: start; }\nth, td { padding: 0.375rem 0.5rem; border-bottom: 1px solid var(--rule); text-align: start; }\nth { font-weight: 600; vertical-align: bottom; }\ntd, tbody th, tfoot th { vertical-align: top; }\ntbody th { font-weight: 400; }\np, dd, h3 { overflow-wrap: anywhere; }\nthead th { background: var(--tint); }\ntfoot th, tfoot td { border-top: 2px solid var(--ink); font-weight: 600; }\n.number { text-align: end; }\n.files { margin: 0.5rem 0 1rem; }\n.name, time { display: block; }\np time, dd time { display: inline; }\ntime, time small { white-space: nowrap; }\ndl { display: grid; grid-template-columns: max-content 1fr; gap: 0.25rem 1rem; }\ndt { color: var(--soft); }\ndd { margin: 0; }\n.sums { grid-template-columns: repeat(auto-fit, minmax(9.5rem, 1fr)); gap: 1rem; }\n.sums dd { font-size: 1.1875rem; font-weight: 600; }\n.sums small { display: block; font-size: 0.875rem; font-weight: 400; }\nfigure { margin: 1.25rem 0; }\nfigcaption { margin-bottom: 0.25rem; }\nsvg { display: block; width: 100%; height: auto; background: var(--tint); }\nsvg text { font-size: 12px; fill: var(--soft); }\nsvg .grid { stroke: var(--rule); }\nsvg .zero { stroke: var(--soft); }\nsvg .line { fill: none; stroke: var(--mark); stroke-width: 2; }\nsvg rect { fill: var(--mark); }\ndetails { margin: 0.5rem 0; }\nsummary { padding: 0.25rem 0; color: var(--mark); cursor: pointer; }\n.fate:empty { display: none; }\n.fate { padding: 0.75rem; border-inline-start: 4px solid var(--mark); background: var(--tint); }\n@media screen and (max-width: 60rem) {\n  table, caption, tbody, tfoot, tr, th, td { display: block; }\n  thead th:not(:has(button)) { position: absolute; left: -99rem; }\n  thead tr { display: flex; flex-wrap: wrap; gap: 0 1rem; }\n  thead th { background: none; }\n  thead th::before { content: none; }\n  thead tr:has(button)::before { content: \"Sort by\"; color: var(--soft); }\n  tr { padding: 0.5rem 0; border-bottom: 1px solid var(--rule); }\n  th, td { display: flex; justify-content: space-between; gap: 1rem; padding: 0; border: 0; }\n  th::before, td::before { flex: none; color: var(--soft); content: attr(data-head); }\n  th::before, td::before { content: attr(data-head) / \"\"; }\n  td:has(> span:empty) { display: none; }\n  th > *, td > * { overflow-wrap: anywhere; text-align: end; min-width: 0; }\n  time { white-space: normal; }\n  tfoot th, tfoot td { border: 0; }\n  dl { grid-template-columns: 1fr; gap: 0; }\n  .sums { grid-template-columns: 1fr 1fr; gap: 0.75rem; }\n  dd { margin-bottom: 0.5rem; }\n}\n.print { display: none; }\n@page {\n  margin: 18mm 15mm;\n  @bottom-right { content: counter(page) \" / \" counter(pages); font: 8pt sans-serif; }\n}\n@media print {\n  header, form, button, .screen, .skip, .row, details, h2, #wrong { display: none !important; }\n  .print { display: block; }\n  body { font-size: 9.5pt; }\n  main { padding: 0; }\n  h3 { margin: 0; font-size: 15pt; }\n  table { font-size: 8.5pt; }\n  th, td { padding: 1.5mm 1.5mm; }\n  thead { display: table-header-group; }\n  tr, figure { break-inside: avoid; }\n  a { color: inherit; text-decoration: none; }\n  .scroll { overflow: visible; }\n  .name { display: inline; margin-inline-end: 0.5em; }\n  .sums { grid-template-columns: repeat(3, 1fr); padding: 3mm 0; border-block: 1px solid; }\n  .sums dd { font-size: 11pt; }\n  svg { background: none; border: 1px solid var(--rule); }\n}\n</style>\n</head>\n<body>\n<a class=\"skip\" href=\"#content\" id=\"skip\">Skip to the content</a>\n<header>\n  <div class=\"row\">\n    <h1>Ledger console</h1>\n    <button type=\"button\" id=\"forget\" hidden>Forget the key</button>\n  </div>\n  <nav aria-label=\"Views\" id=\"views\" hidden>\n    <a href=\"#accounts\">Accounts</a>\n    <a href=\"#statement\">Statement</a>\n    <a href=\"#transfer\">Transfer</a>\n    <a href=\"#search\">Search</a>\n    <a href=\"#holds\">Holds</a>\n    <a href=\"#day\">A day</a>\n    <a href=\"#trial\">Trial balance</a>\n    <a href=\"#new\">New transfers</a>\n    <a href=\"#names\">Names</a>\n  </nav>\n</header>\n<main id=\"content\" tabindex=\"-1\">\n  <noscript>This page needs JavaScript.</noscript>\n  <p id=\"wrong\" role=\"alert\"></p>\n  <div class=\"row bar\">\n    <p id=\"told\" role=\"status\"></p>\n    <button type=\"button\" id=\"stop\" hidden>Stop reading</button>\n    <button type=\"button\" id=\"again\" hidden>Look again</button>\n  </div>\n\n  <section data-view=\"key\">\n    <h2 tabindex=\"-1\">Your key</h2>\n    <form id=\"key-form\">\n      <div class=\"row\">\n        <label for=\"key\">Key, 64 hexadecimal digits\n          <input id=\"key\" type=\"password\" autocomplete=\"off\" spellcheck=\"false\"\n            aria-describedby=\"key-hint\" required>\n        </label>\n        <button>Open</button>\n      </div>\n      <p class=\"hint\" id=\"key-hint\">The key stays in the memory of this page. It goes to the service\n        that gave you the page, as the header x-ledger-key, and nowhere else. This page only\n        reads: it opens no account and sends no transfer.</p>\n    </form>\n  </section>\n\n  <section data-view=\"accounts\" hidden>\n    <h2 tabindex=\"-1\">Accounts</h2>\n    <div class=\"row search\" role=\"search\" aria-label=\"In this list\">\n      <label for=\"begins\">Name or id begins with <input id=\"begins\" type=\"search\"></label>\n      <label for=\"currency\">Currency or ledger <input id=\"currency\" type=\"search\"></label>\n      <button type=\"button\" id=\"all\">Read all accounts</button>\n    </div>\n    <div id=\"accounts-out\"></div>\n  </section>\n\n  <section data-view=\"statement\" hidden>\n    <h2 tabindex=\"-1\">Statement</h2>\n    <form id=\"statement-form\">\n      <div class=\"row\">\n        <label for=\"account\">Account's id or name <input id=\"account\"></label>\n        <label for=\"period\">Period <select id=\"period\"></select></label>\n        <label for=\"from\">From <input id=\"from\" type=\"date\"></label>\n        <label for=\"to\">To <input id=\"to\" type=\"date\"></label>\n        <button>Show</button>\n      </div>\n    </form>\n    <div id=\"statement-out\" hidden>\n      <div id=\"statement-head\"></div>\n      <div id=\"balance-picture\"></div>\n      <button type=\"button\" id=\"print\">Print</button>\n      <div id=\"entries\"></div>\n    </div>\n  </section>\n\n  <section data-view=\"transfer\" hidden>\n    <h2 tabindex=\"-1\">Transfer</h2>\n    <form id=\"transfer-form\">\n      <div class=\"row\">\n        <label for=\"transfer\">Transfer's id <input id=\"transfer\"></label>\n        <button>Show</button>\n      </div>\n    </form>\n    <p class=\"fate\" id=\"fate\" role=\"status\"></p>\n    <dl id=\"transfer-out\"></dl>\n  </section>\n\n  <section data-view=\"search\" hidden>\n    <h2 tabindex=\"-1\">Search</h2>\n    <form id=\"search-form\">\n      <div class=\"row\">\n        <label for=\"kind\">Search by <select id=\"kind\"></select></label>\n        <label for=\"sought\">Looking for <input id=\"sought\" aria-describedby=\"search-hint\"></label>\n        <label for=\"search-from\">From <input id=\"search-from\" type=\"date\"></label>\n        <label for=\"search-to\">To <input id=\"search-to\" type=\"date\"></label>\n        <button>Search</button>\n      </div>\n      <p class=\"hint\" id=\"search-hint\">An id or a reference is a number or a UUID. An amount is\n        such as 12.50, or 10-20. The transfers between the two dates are gone through, the newest\n        first.</p>\n    </form>\n    <div id=\"search-out\"></div>\n  </section>\n\n  <section data-view=\"holds\" hidden>\n    <h2 tabindex=\"-1\">Holds</h2>\n    <p class=\"hint\">Amounts that are set aside, and neither posted, voided nor expired.</p>\n    <div id=\"holds-out\"></div>\n  </section>\n\n  <section data-view=\"day\" hidden>\n    <h2 tabindex=\"-1\">A day</h2>\n    <form id=\"day-form\">\n      <div class=\"row\">\n        <label for=\"day\">Day <input id=\"day\" type=\"date\"></label>\n        <button>Show</button>\n      </div>\n    </form>\n    <div id=\"day-out\"></div>\n  </section>\n\n  <section data-view=\"trial\" hidden>\n    <h2 tabindex=\"-1\">Trial balance</h2>\n    <p class=\"hint\">All accounts at one moment. In each ledger debits equal credits.</p>\n    <div id=\"trial-out\"></div>\n  </section>\n\n  <section data-view=\"new\" hidden>\n    <h2 tabindex=\"-1\">New transfers</h2>\n    <p class=\"hint\">All transfers that the ledger accepts from now on, whichever their accounts.</p>\n    <button type=\"button\" id=\"follow\" aria-pressed=\"false\">Follow new transfers</button>\n    <div id=\"new-out\"></div>\n  </section>\n\n  <section data-view=\"names\" hidden>\n    <h2 tabindex=\"-1\">Names and decimals</h2>\n    <form id=\"names-form\">\n      <label for=\"names-file\">A file of names, such as accounts.csv\n        <input id=\"names-file\" type=\"file\" accept=\".csv,text/csv,text/plain\"\n          aria-describedby=\"names-hint\"></label>\n      <p class=\"hint\" id=\"names-hint\">Its first line is id,name,decimals,note. Each further line has\n        an account's id and name; decimals and note may be empty. The names stay in this browser,\n        for this ledger, and are sent nowhere.</p>\n      <p id=\"names-kept\"></p>\n      <button type=\"button\" id=\"names-remove\">Remove the names</button>\n      <label class=\"check\" for=\"iso\"><input id=\"iso\" type=\"checkbox\" checked>\n        <span>Ledgers that are numbers of ISO 4217 are currencies: 978 is EUR, with 2\n          decimals</span></label>\n      <div class=\"row\">\n        <label for=\"decimals\">Decimals of other ledgers, such as 7:3 12:0\n          <input id=\"decimals\"></label>\n        <button>Use these</button>\n      </div>\n    </form>\n  </section>\n</main>\n\n<script type=\"module\">\n// What this page knows. It is gone with the page, or once the key is forgotten.\n\nconst nothingKnown = () => ({\n  key: \"\",\n  book: \"\",\n  accounts: { rows: [], isWhole: false, isOneMoment: true, clock: 0n },\n  statement: null,\n  transfer: null,\n  found: null,\n  holds: null,\n  day: null,\n  followed: [],\n  count: 0,\n  since: 0n,\n});\nconst nothingOwn = () => ({ names: new Map(), decimals: new Map(), isIso: true });\nlet state = nothingKnown();\nlet own = nothingOwn();\nlet view = \"key\";\nlet routed = new AbortController();\nlet following = null;\nlet working = 0;\n\n// Elements. Data goes into them as text.\n\nconst at = (id) => document.getElementById(id);\n\nfunction filled(made, attributes, children = []) {\n  for (const [key, value] of Object.entries(attributes)) made.setAttribute(key, value);\n  made.append(...children);\n  return made;\n}\n\nconst el = (name, attributes, ...children) =>\n  filled(document.createElement(name), attributes, children);\n\nconst drawn = (name, attributes, ...children) =>\n  filled(document.createElementNS(\"http://www.w3.org/2000/svg\", name), attributes, children);\n\nfunction button(label, work) {\n  const made = el(\"button\", { type: \"button\" }, label);\n  made.addEventListener(\"click\", () => run(work));\n  return made;\n}\n\nconst tell = (text) => { at(\"told\").textContent = text; };\nconst warn = (text) => { at(\"wrong\").textContent = text; };\n\n// How far a long read is; at most twice a second, for the sake of who listens.\nlet toldAt = 0;\nfunction tellNowAndThen(text) {\n  if (performance.now() - toldAt < 500) return;\n  toldAt = performance.now();\n  tell(text);\n}\n\nconst put = (id, ...content) => at(id).replaceChildren(...content);\n\n// Numbers. They have up to 128 bits: digits and BigInt, and Number only where a picture is drawn.\n\nconst MAX = 2n ** 128n - 1n;\nconst isId = (text) => /^(0|[1-9]\\d{0,38})$/.test(text) && BigInt(text) <= MAX;\nconst grouped = (digits) => digits.replace(/\\B(?=(\\d{3})+$)/g, \",\");\nconst plural = (count, word, words = `${word}s`) =>\n  `${grouped(String(count))} ${count === 1 ? word : words}`;\nconst sumOf = (rows, valueOf) => rows.reduce((sum, row) => sum + BigInt(valueOf(row)), 0n);\nconst least = (one, other) => (one < other ? one : other);\n\nfunction pointed(value, places, write) {\n  const number = BigInt(value);\n  const digits = String(number < 0n ? -number : number).padStart(places + 1, \"0\");\n  const whole = write(digits.slice(0, digits.length - places));\n  return (number < 0n ? \"-\" : \"\") + (places ? `${whole}.${digits.slice(-places)}` : whole);\n}\n\nconst plain = (value, places) => pointed(value, places, (digits) => digits);\nconst amountText = (value, places) => pointed(value, places, grouped).replace(\"-\", \"\\u2212\");\n\n// Credits less debits, as bookkeepers write it.\nfunction balanceText(net, places) {\n  const side = net > 0n ? \"\\u00a0Cr\" : net < 0n ? \"\\u00a0Dr\" : \"\";\n  return amountText(net < 0n ? -net : net, places) + side;\n}\n\n// A long id in groups that are apart to the eye alone: its digits are copied together.\nfunction idText(id) {\n  const groups = id.length > 6 ? id.match(/\\d{1,3}(?=(\\d{3})*$)/g) : [id];\n  return el(\"span\", { class: \"id\" }, ...groups.map((group) => el(\"span\", {}, group)));\n}\n\n// An amount as it was typed: its digits, and how many of them are decimals.\nfunction typedAmount(text) {\n  const found = /^(\\d{1,3}(?:[, ]\\d{3})+|\\d+)(?:\\.(\\d+))?$/.exec(text.trim());\n  if (!found) throw new Told(`${text || \"Nothing\"} is no amount: 12.50 is, and 10-20.`);\n  const [, whole, decimals = \"\"] = found;\n  return { digits: BigInt(whole.replace(/[, ]/g, \"\") + decimals), places: decimals.length };\n}\n\n// Times: nanoseconds of UTC in the ledger, the reader's zone on the page.\n\nconst SECOND = 10n ** 9n;\nconst HOUR = 3600n * SECOND;\nconst DAY = 24n * HOUR;\nconst dateOf = (nanoseconds) => new Date(Number(BigInt(nanoseconds) / 10n ** 6n));\nconst nanosecondsOf = (date) => BigInt(Math.max(0, date.getTime())) * 10n ** 6n;\nconst written = (date) => date.toISOString().slice(0, 19).replace(\"T\", \" \");\nconst utcText = (nanoseconds) => written(dateOf(nanoseconds));\n\nfunction localText(nanoseconds) {\n  const date = dateOf(nanoseconds);\n  return written(new Date(date - date.getTimezoneOffset() * 60000));\n}\n\n// The reader's time, and UTC beside it.\nfunction moment(nanoseconds) {\n  const [here, utc] = [localText(nanoseconds), utcText(nanoseconds)];\n  const isSameDay = here.slice(0, 10) === utc.slice(0, 10);\n  const beside = here === utc ? \"UTC\" : `${utc.slice(isSameDay ? 11 : 0)} UTC`;\n  return el(\"time\", { datetime: `${utc.replace(\" \", \"T\")}Z` }, `${here} `, el(\"small\", {}, beside));\n}\n\nconst fullUtc = (nanoseconds) => `${utcText(nanoseconds).replace(\" \", \"T\")}.`\n  + `${String(BigInt(nanoseconds) % SECOND).padStart(9, \"0\")}Z`;\n\n// The midnight that begins a day of the reader's, some days after it.\nfunction midnight(day, after = 0) {\n  const [year, month, date] = day.split(\"-\").map(Number);\n  return nanosecondsOf(new Date(year, month - 1, date + after));\n}\n\n// What two fields of dates ask for, both days whole; an empty one is no bound.\nfunction boundsIn(from, to) {\n  const [first, last] = [at(from).value, at(to).value];\n  return { from: first ? midnight(first) : 0n, to: last ? midnight(last, 1) - 1n : 0n };\n}\n\n// Names, currencies and decimals.\n\n// ISO 4217: the number and the letters of each currency.\nconst CURRENCIES = new Map((\"008ALL012DZD032ARS036AUD044BSD048BHD050BDT051AMD052BBD060BMD064BTN068BOB072BWP084BZD090SBD\"\n  + \"096BND104MMK108BIF116KHR124CAD132CVE136KYD144LKR152CLP156CNY170COP174KMF188CRC191HRK192CUP\"\n  + \"203CZK208DKK214DOP222SVC230ETB232ERN238FKP242FJD262DJF270GMD292GIP320GTQ324GNF328GYD332HTG\"\n  + \"340HNL344HKD348HUF352ISK356INR360IDR364IRR368IQD376ILS388JMD392JPY398KZT400JOD404KES408KPW\"\n  + \"410KRW414KWD417KGS418LAK422LBP426LSL430LRD434LYD446MOP454MWK458MYR462MVR480MUR484MXN496MNT\"\n  + \"498MDL504MAD512OMR516NAD524NPR532ANG533AWG548VUV554NZD558NIO566NGN578NOK586PKR590PAB598PGK\"\n  + \"600PYG604PEN608PHP634QAR643RUB646RWF654SHP682SAR690SCR694SLL702SGD704VND706SOS710ZAR728SSP\"\n  + \"748SZL752SEK756CHF760SYP764THB776TOP780TTD784AED788TND800UGX807MKD818EGP826GBP834TZS840USD\"\n  + \"858UYU860UZS882WST886YER901TWD925SLE926VED927UYW928VES929MRU930STN931CUC932ZWL933BYN934TMT\"\n  + \"936GHS938SDG940UYI941RSD943MZN944AZN946RON947CHE948CHW949TRY950XAF951XCD952XOF953XPF967ZMW\"\n  + \"968SRD969MGA970COU971AFN972TJS973AOA975BGN976CDF977BAM978EUR979MXV980UAH981GEL984BOV985PLN\"\n  + \"986BRL990CLF997USN\")\n  .match(/.{6}/g).map((it) => [Number(it.slice(0, 3)), it.slice(3)]));\n// Those whose smallest unit is not a hundredth.\nconst UNUSUAL = { 0: \"BIF CLP DJF GNF ISK JPY KMF KRW PYG RWF UGX UYI VND VUV XAF XOF XPF\",\n  3: \"BHD IQD JOD KWD LYD OMR TND\", 4: \"CLF UYW\" };\n\nconst currencyOf = (ledger) => (own.isIso ? CURRENCIES.get(ledger) : undefined);\nconst ledgerText = (ledger) => currencyOf(ledger) ?? String(ledger);\n\nfunction currencyPlaces(ledger) {\n  const currency = currencyOf(ledger);\n  if (!currency) return undefined;\n  return Number(Object.keys(UNUSUAL).find((it) => UNUSUAL[it].includes(currency)) ?? 2);\n}\n\n// The file of names comes first, then what the person has typed, then the currency.\nfunction placesOf(ledger, ids) {\n  const named = ids.map((id) => own.names.get(id)?.decimals).find((it) => it !== undefined);\n  return named ?? own.decimals.get(ledger) ?? currencyPlaces(ledger) ?? 0;\n}\n\nconst placesOfAccount = (account) => placesOf(account.ledger, [account.id]);\nconst placesOfTransfer = (it) => placesOf(it.ledger, [it.debit_account_id, it.credit_account_id]);\nconst nameOf = (id) => own.names.get(id)?.name || \"\";\n\nconst link = (to, id) => el(\"a\", { href: `#${to}/${id}` }, idText(id));\n\n// An account by its name, with its id below.\nfunction accountLink(id) {\n  const name = nameOf(id);\n  if (!name) return link(\"statement\", id);\n  return el(\"span\", {}, el(\"a\", { href: `#statement/${id}`, class: \"name\" }, name),\n    el(\"small\", {}, idText(id)));\n}\n\n// Fields of files may stand in quotes, in which \"\" is one quote. Commas part them, or semicolons.\nfunction rowsIn(text) {\n  const mark = text.split(\"\\n\", 1)[0].includes(\";\") ? \";\" : \",\";\n  const field = new RegExp(`(\"(?:[^\"]|\"\")*\"|[^${mark}\\\\r\\\\n]*)(${mark}|\\\\r?\\\\n|$)`, \"gy\");\n  const rows = [[]];\n  for (const [, value, end] of text.matchAll(field)) {\n    const isQuoted = /^\".*\"$/s.test(value);\n    rows.at(-1).push((isQuoted ? value.slice(1, -1).replaceAll('\"\"', '\"') : value).trim());\n    if (end !== mark) rows.push([]);\n  }\n  return rows;\n}\n\n// Spreadsheets may have written an id as a formula.\nfunction nameIn([written, name, places, note], line) {\n  const id = written.replace(/^=\"?(\\d+)\"?$/, \"$1\");\n  if (!isId(id)) throw new Told(`Line ${line}: ${id || \"nothing\"} is no account's id.`);\n  if (!/^\\d{0,2}$/.test(places) || places > 38) {\n    throw new Told(`Line ${line}: ${places} is no number of decimals.`);\n  }\n  return [id, { name, decimals: places ? Number(places) : undefined, note }];\n}\n\nfunction namesIn(text) {\n  const [heads, ...rows] = rowsIn(text.replace(/^\\ufeff/, \"\"));\n  const lower = heads.map((it) => it.toLowerCase());\n  const columns = [\"id\", \"name\", \"decimals\", \"note\"].map((it) => lower.indexOf(it));\n  if (columns[0] < 0 || columns[1] < 0) {\n    throw new Told(\"The file's first line has to name its columns: id,name,decimals,note.\");\n  }\n  return new Map(rows.map((row, place) => [columns.map((it) => row[it] ?? \"\"), place + 2])\n    .filter(([row]) => row.some(Boolean)).map(([row, line]) => nameIn(row, line)));\n}\n\n// Files of old spreadsheets are not in UTF-8.\nasync function textOf(file) {\n  const bytes = await file.arrayBuffer();\n  try {\n    return new TextDecoder(\"utf-8\", { fatal: true }).decode(bytes);\n  } catch {\n    return new TextDecoder(\"windows-1252\").decode(bytes);\n  }\n}\n\nconst shelf = () => `names ${state.book}`;\n\n// Keeps names and decimals in the browser, under the ledger that they are of: the time at which its\n// first account was opened. The key is not written anywhere.\nfunction keepOwn() {\n  try {\n    localStorage.setItem(shelf(), JSON.stringify(\n      { names: [...own.names], decimals: [...own.decimals], isIso: own.isIso }));\n  } catch {\n    warn(\"This browser keeps nothing for this page: the names are gone once it is closed.\");\n  }\n}\n\nfunction readOwn() {\n  own = nothingOwn();\n  try {\n    const { names, decimals, isIso } = JSON.parse(localStorage.getItem(shelf()));\n    own = { names: new Map(names), decimals: new Map(decimals), isIso };\n  } catch {\n    // Nothing is kept of this ledger.\n  }\n}\n\n// Files to be saved. In the form for spreadsheets each number is the formula of a text, so that all\n// its digits stay.\n\nfunction fieldText(value, isSheet) {\n  const text = String(value);\n  if (isSheet && /^-?\\d[\\d.]*$/.test(text)) return `\"=\"\"${text}\"\"\"`;\n  return /[\",;\\r\\n]|^[=+@-]/.test(text) ? `\"${text.replaceAll('\"', '\"\"')}\"` : text;\n}\n\nfunction fileText(columns, rows, isSheet) {\n  const fieldsOf = (row) => columns.flatMap(({ fields }) => (fields ? fields(row) : []));\n  if (!rows.length) return \"\";\n  const lines = [fieldsOf(rows[0]).map(([name]) => name),\n    ...rows.map((row) => fieldsOf(row).map(([, value]) => fieldText(value, isSheet)))];\n  return (isSheet ? \"\\ufeff\" : \"\") + lines.map((line) => `${line.join(\",\")}\\n`).join(\"\");\n}\n\nfunction save(name, text) {\n  const address = URL.createObjectURL(new Blob([text], { type: \"text/csv\" }));\n  el(\"a\", { href: address, download: name }).click();\n  setTimeout(() => URL.revokeObjectURL(address), 60000);\n  tell(`${name} is saved.`);\n}\n\nconst fileButtons = (name, columns, rows) => el(\"p\", { class: \"row files\" },\n  button(\"Download CSV\", () => save(`${name}.csv`, fileText(columns, rows, false))),\n  button(\"Download for a spreadsheet\",\n    () => save(`${name}-sheet.csv`, fileText(columns, rows, true))));\n\n// Tables. A column has a head, its cell for the eye, a key that rows are sorted by, and its fields\n// in a file.\n\nconst MOST_ROWS = 500;\nconst slug = (head) => head.toLowerCase().replace(/\\W+/g, \"_\");\n\nconst textColumn = (head, of, number = false) =>\n  ({ head, number, cell: of, key: of, fields: (it) => [[slug(head), of(it)]] });\n\nconst numberColumn = (head, of) => ({ ...textColumn(head, (it) => String(of(it)), true), key: of });\n\nconst moneyColumn = (head, of, placesOfRow, write = amountText) => ({\n  head,\n  number: true,\n  cell: (it) => (of(it) === null ? \"\" : write(BigInt(of(it)), placesOfRow(it))),\n  key: (it) => BigInt(of(it) ?? 0),\n  fields: (it) => [[slug(head), of(it) === null ? \"\" : plain(of(it), placesOfRow(it))]],\n});\n\nconst accountColumn = (head, idOf) => ({\n  head,\n  cell: (it) => accountLink(idOf(it)),\n  key: (it) => nameOf(idOf(it)).toLowerCase() || idOf(it).padStart(39, \"0\"),\n  fields: (it) => [[slug(head), idOf(it)], [`${slug(head)}_name`, nameOf(idOf(it))]],\n});\n\nconst timeColumn = (head, of) => ({\n  head,\n  cell: (it) => (of(it) === \"0\" ? \"never\" : moment(of(it))),\n  key: (it) => BigInt(of(it)),\n  fields: (it) => [[slug(head), localText(of(it))], [`${slug(head)}_utc`, fullUtc(of(it))],\n    [`${slug(head)}_stamp`, of(it)]],\n});\n\nconst LEDGER = {\n  head: \"Currency\",\n  cell: (it) => ledgerText(it.ledger),\n  key: (it) => it.ledger,\n  fields: (it) => [[\"ledger\", it.ledger], [\"currency\", currencyOf(it.ledger) ?? \"\"]],\n};\n\nconst TRANSFER_ID = {\n  head: \"Transfer\",\n  cell: (it) => link(\"transfer\", it.id),\n  key: (it) => BigInt(it.id),\n  fields: (it) => [[\"transfer\", it.id]],\n};\n\nconst REFERENCE = {\n  head: \"Reference\",\n  cell: (it) => referenceText(it),\n  key: (it) => BigInt(userData(it).find((value) => value !== \"0\") ?? 0),\n  fields: (it) => [128, 64, 32].map((bits) => [`user_data_${bits}`, it[`user_data_${bits}`]]),\n};\n\n// On a narrow screen a row is a block, and each cell tells its column. So that a table stays one to\n// a screen reader, its roles are named.\nfunction tableRow(columns, row) {\n  return el(\"tr\", { role: \"row\" }, ...columns.map(({ head, number, cell }, place) =>\n    el(place ? \"td\" : \"th\", {\n      role: place ? \"cell\" : \"rowheader\",\n      \"data-head\": head,\n      class: number ? \"number\" : \"\",\n    }, el(\"span\", {}, ...[cell(row)].flat()))));\n}\n\nconst inOrder = (one, other) => (one < other ? -1 : one > other ? 1 : 0);\n\nfunction sorted(rows, key, isDown) {\n  const keyed = rows.map((row) => [key(row), row]);\n  keyed.sort(([one], [other]) => (isDown ? inOrder(other, one) : inOrder(one, other)));\n  return keyed.map(([, row]) => row);\n}\n\nfunction headOf({ head, number, key }, sort) {\n  const made = el(\"th\", { role: \"columnheader\", scope: \"col\", class: number ? \"number\" : \"\" });\n  if (!sort) made.append(head);\n  else {\n    made.append(el(\"button\", { type: \"button\" }, head));\n    made.firstChild.addEventListener(\"click\", () => {\n      const isDown = made.ariaSort === \"ascending\";\n      for (const other of made.parentElement.children) other.removeAttribute(\"aria-sort\");\n      made.ariaSort = isDown ? \"descending\" : \"ascending\";\n      sort(key, isDown);\n    });\n  }\n  return made;\n}\n\n// It shows so many rows at first, and as many more each time that somebody asks for them.\nfunction table(title, columns, rows, { foot, isSorted = false, most = MOST_ROWS } = {}) {\n  const shown = columns.filter(({ cell }) => cell);\n  const body = el(\"tbody\", { role: \"rowgroup\" });\n  let order = rows;\n  const fill = (count) => {\n    body.replaceChildren(...order.slice(0, count).map((row) => tableRow(shown, row)));\n    more.hidden = count >= rows.length;\n    more.firstChild.textContent = `Show more than ${plural(count, \"row\")}`;\n  };\n  const more = el(\"p\", {}, button(\"\", () => fill(body.children.length + most)));\n  const sort = isSorted && rows.length > 1 ? (key, isDown) => {\n    order = sorted(rows, key, isDown);\n    fill(most);\n  } : undefined;\n  const made = el(\"table\", { role: \"table\" },\n    el(\"caption\", {}, title),\n    el(\"thead\", { role: \"rowgroup\" },\n      el(\"tr\", { role: \"row\" }, ...shown.map((column) => headOf(column, sort)))),\n    body);\n  if (foot) made.append(el(\"tfoot\", { role: \"rowgroup\" }, tableRow(shown, foot)));\n  fill(most);\n  return el(\"div\", {},\n    el(\"div\", { class: \"scroll\", tabindex: \"0\", role: \"region\", \"aria-label\": title }, made), more);\n}\n\n// A table that can be sorted and saved.\nconst list = (title, columns, rows, name, foot) => (rows.length\n  ? [table(title, columns, rows, { foot, isSorted: true }), fileButtons(name, columns, rows)]\n  : [el(\"p\", {}, title)]);\n\n// Pictures. Each is drawn anew for the width that it has, and has a table for who does not see it.\n\nconst HEIGHT = 200, TOP = 18, BOTTOM = 22;\n\nfunction picture(title, summary, draw, rows) {\n  const svg = drawn(\"svg\", { role: \"img\", \"aria-label\": summary });\n  const made = el(\"figure\", {}, el(\"figcaption\", {}, title), svg,\n    el(\"details\", {}, el(\"summary\", {}, `${title}, as a table`), rows));\n  new ResizeObserver(([{ contentRect }]) => {\n    const width = Math.round(contentRect.width);\n    if (!width) return;\n    svg.setAttribute(\"viewBox\", `0 0 ${width} ${HEIGHT}`);\n    svg.replaceChildren(...draw(width));\n  }).observe(made);\n  return made;\n}\n\nconst words = (x, y, anchor, text) => drawn(\"text\", { x, y, \"text-anchor\": anchor }, text);\n\n// Round values between the two, some four; they reach just beyond both.\nfunction ticksOf(lowest, highest) {\n  let step = 1n;\n  for (let turn = 0; (highest - lowest) / step > 3n; turn += 1) {\n    step = turn % 3 === 1 ? step * 5n / 2n : step * 2n;\n  }\n  const first = -((step - 1n - lowest) / step) * step;\n  const ticks = [first];\n  while (ticks.at(-1) < highest || ticks.length < 2) ticks.push(ticks.at(-1) + step);\n  return ticks;\n}\n\n// Where values stand, from the least to the greatest of them and 0; lines with what they are, and\n// how much room these words take at the left.\nfunction scaleOf(values, width, write) {\n  let [lowest, highest] = [0n, 0n];\n  for (const value of values) {\n    if (value < lowest) lowest = value;\n    if (value > highest) highest = value;\n  }\n  const ticks = ticksOf(lowest, highest);\n  const [bottom, range] = [ticks[0], ticks.at(-1) - ticks[0]];\n  const heightOf = (value) => HEIGHT - BOTTOM\n    - Number((value - bottom) * 10000n / range) * (HEIGHT - TOP - BOTTOM) / 10000;\n  const longest = ticks.reduce((most, tick) => Math.max(most, write(tick).length), 0);\n  const left = Math.min(longest * 7 + 10, width / 2);\n  const grid = ticks.flatMap((tick) => [\n    drawn(\"path\", { class: tick ? \"grid\" : \"zero\", d: `M${left} ${heightOf(tick)}H${width}` }),\n    left < width / 2 ? words(left - 6, heightOf(tick) + 4, \"end\", write(tick))\n      : words(0, heightOf(tick) - 4, \"start\", write(tick)),\n  ]);\n  return { heightOf, grid, left };\n}\n\n// Words below the picture: as many as fit.\nfunction footOf(left, width, textAt) {\n  const most = width - left > 560 ? 4 : 2;\n  return Array.from({ length: most + 1 }, (_, place) =>\n    words(left + place * (width - left) / most, HEIGHT - 6,\n      place === 0 ? \"start\" : place === most ? \"end\" : \"middle\", textAt(place / most)));\n}\n\n// A time as short as it can be told from the others between these two.\nfunction shortTime(nanoseconds, span) {\n  const text = localText(nanoseconds);\n  if (span > 3n * DAY) return text.slice(0, 10);\n  return span > 6n * HOUR ? text.slice(5, 16) : text.slice(11);\n}\n\n// A line that stays as it is until the next point; of each place across, least, greatest and last.\nfunction stepsOf(points, placeOf, heightOf) {\n  let [path, column] = [\"\", null];\n  const flush = () => {\n    if (column) path += `H${column.x}V${column.low}V${column.high}V${column.last}`;\n  };\n  for (const { time, value } of points) {\n    const [x, y] = [Math.round(placeOf(time)), Math.round(heightOf(value) * 10) / 10];\n    if (column?.x !== x) {\n      flush();\n      column = { x, low: y, high: y };\n    }\n    column = { x, low: Math.max(column.low, y), high: Math.min(column.high, y), last: y };\n  }\n  flush();\n  return path;\n}\n\nfunction drawLine(width, points, [start, end], write) {\n  const { heightOf, grid, left } = scaleOf(points.map(({ value }) => value), width, write);\n  const span = end > start ? end - start : 1n;\n  const placeOf = (time) =>\n    left + Number((time - start) * 100000n / span) * (width - left) / 100000;\n  const timeAt = (share) => start + span * BigInt(share * 4) / 4n;\n  const path = stepsOf(points, placeOf, heightOf);\n  return [...grid,\n    drawn(\"path\", { class: \"line\", d: `M${left} ${heightOf(points[0].value)}${path}H${width}` }),\n    ...footOf(left, width, (share) => shortTime(timeAt(share), span))];\n}\n\n// Bars beside each other, of buckets with a value and a label.\nfunction drawBars(width, buckets, write) {\n  const { heightOf, grid, left } = scaleOf(buckets.map(({ value }) => value), width, write);\n  const each = (width - left) / buckets.length;\n  const every = Math.ceil(buckets.length / ((width - left) / 100));\n  const free = buckets.length - (buckets.at(-1).isLast ? every : 0);\n  const isLabelled = (place) => buckets[place].isLast || !(place % every) && place + every <= free;\n  const bars = buckets.flatMap(({ value, label, isLast }, place) => {\n    const x = left + (place + 0.12) * each;\n    const [y, height] = [heightOf(value), heightOf(0n) - heightOf(value)];\n    return [drawn(\"rect\", { x, y, width: each * 0.76, height }),\n      ...(isLabelled(place)\n        ? [words(isLast ? width : x, HEIGHT - 6, isLast ? \"end\" : \"start\", label)] : [])];\n  });\n  return [...grid, ...bars];\n}\n\nconst WIDTHS = [60n * SECOND, 300n * SECOND, 900n * SECOND, HOUR, 3n * HOUR, 6n * HOUR, DAY,\n  7n * DAY, 30n * DAY, 365n * DAY];\n// The least width with which there are at most this many buckets.\nconst bucketWidth = (span, most) => WIDTHS.find((it) => span / it < most) ?? span / most + 1n;\n\n// Flags by their bits.\n\nconst ACCOUNT_FLAGS = [\"linked\", \"debits must not exceed credits\",\n  \"credits must not exceed debits\", \"history\"];\nconst TRANSFER_FLAGS = [\"linked\", \"pending\", \"post\", \"void\", \"balancing debit\",\n  \"balancing credit\"];\nconst PENDING = 2, POST = 4, VOID = 8;\nconst DEBITS_LIMITED = 2, CREDITS_LIMITED = 4, KEEPS_HISTORY = 8;\n\nconst flagNames = (flags, names) =>\n  names.filter((name, bit) => flags >> bit & 1).join(\", \") || \"none\";\n\nfunction kindOf({ flags }) {\n  if (flags & PENDING) return \"Hold\";\n  if (flags & POST) return \"Hold posted\";\n  return flags & VOID ? \"Hold voided\" : \"Transfer\";\n}\n\n// Whether its amount is in the posted balances.\nconst isPosted = ({ flags }) => !(flags & (PENDING | VOID));\n\nconst userData = (record) =>\n  [record.user_data_128, record.user_data_64, String(record.user_data_32)];\n\nfunction referenceText(record) {\n  const parts = userData(record).map((value, place) => [value, [128, 64, 32][place]]);\n  const given = parts.filter(([value]) => value !== \"0\");\n  if (!given.length) return \"none\";\n  return given.flatMap(([value, bits]) => [idText(value), \" \", el(\"small\", {}, `${bits}\\u00a0bits`),\n    \" \"]);\n}\n\n// The service. What it refuses, and what else a person should know, is thrown as Told.\n\nclass Told extends Error {\n  constructor(message, refusal) {\n    super(message);\n    this.refusal = refusal;\n  }\n}\n\nconst REFUSALS = {\n  unknown_key: \"Nobody has this key. Look at its digits.\",\n  no_account: \"There is no account with this id.\",\n  unavailable: \"The ledger is not available just now. Try again in a moment.\",\n  no_answer: \"The ledger does not answer. Is the service running?\",\n};\n\nconst refused = (name) => new Told(REFUSALS[name] ?? `The service refused this: ${name}.`, name);\n\n// What is no refusal of the ledger's own comes from a proxy in front of it.\nfunction refusalIn(text) {\n  try {\n    return JSON.parse(text).error ?? \"no_answer\";\n  } catch {\n    return \"no_answer\";\n  }\n}\n\nasync function fetched(signal, path, body) {\n  try {\n    const reply = await fetch(path, {\n      method: \"POST\",\n      headers: { \"x-ledger-key\": state.key },\n      body: JSON.stringify(body),\n      cache: \"no-store\",\n      credentials: \"omit\",\n      redirect: \"error\",\n      signal,\n    });\n    return [reply.ok, await reply.text()];\n  } catch (error) {\n    throw error.name === \"AbortError\" ? error : refused(\"no_answer\");\n  }\n}\n\nasync function ask(signal, path, body) {\n  const [ok, text] = await fetched(signal, path, body);\n  signal.throwIfAborted();\n  if (!ok) throw refused(refusalIn(text));\n  return JSON.parse(text);\n}\n\nconst PAGE = 1000;\n\n// The pages of a query, until no record is further within its bounds.\nasync function* pagesOf(signal, path, query) {\n  const bound = query.flags ? \"timestamp_max\" : \"timestamp_min\";\n  for (let from = query[bound]; ;) {\n    const page = await ask(signal, path, { limit: PAGE, ...query, [bound]: from });\n    yield page;\n    if (page.next === \"0\") return;\n    from = page.next;\n    tellNowAndThen(`Reading: ${query.flags ? \"back to\" : \"up to\"} ${localText(from)} so far.`);\n  }\n}\n\n// The pages of an account's transfers, oldest first; 0 is no bound.\nasync function* historyOf(signal, id, from, to) {\n  for (let since = from; ;) {\n    const page = await ask(signal, \"/history/transfers\", { account_id: id, limit: PAGE, flags: 3,\n      timestamp_min: String(since), timestamp_max: String(to) });\n    yield page;\n    if (page.transfers.length < PAGE) return;\n    since = BigInt(page.transfers.at(-1).timestamp) + 1n;\n    tellNowAndThen(`Reading: up to ${localText(since)} so far.`);\n  }\n}\n\nasync function lookUp(signal, what, ids) {\n  const found = [];\n  for (let first = 0; first < ids.length; first += PAGE) {\n    const page = await ask(signal, `/${what}/lookup`, ids.slice(first, first + PAGE));\n    found.push(...page[what]);\n  }\n  return found;\n}\n\nasync function accountOf(signal, id) {\n  const { accounts: [account], clock } = await ask(signal, \"/accounts/lookup\", [id]);\n  if (!account) throw refused(\"no_account\");\n  return { account, clock: BigInt(clock) };\n}\n\n// Accounts. Pages of them come from different moments where the ledger goes on meanwhile. Then what\n// was posted since is added to those that were read before it, so that all stand at one moment.\n\nconst netOf = (it) => BigInt(it.credits_posted) - BigInt(it.debits_posted);\n\n// What an account may still spend by its limit.\nfunction availableOf(account) {\n  if (account.flags & DEBITS_LIMITED) return netOf(account) - BigInt(account.debits_pending);\n  if (account.flags & CREDITS_LIMITED) return -netOf(account) - BigInt(account.credits_pending);\n  return null;\n}\n\nconst ACCOUNT_COLUMNS = [\n  accountColumn(\"Account\", (it) => it.id),\n  LEDGER,\n  numberColumn(\"Code\", (it) => it.code),\n  moneyColumn(\"Debits\", (it) => it.debits_posted, placesOfAccount),\n  moneyColumn(\"Credits\", (it) => it.credits_posted, placesOfAccount),\n  moneyColumn(\"Balance\", netOf, placesOfAccount, balanceText),\n  moneyColumn(\"Held debits\", (it) => it.debits_pending, placesOfAccount),\n  moneyColumn(\"Held credits\", (it) => it.credits_pending, placesOfAccount),\n  moneyColumn(\"Available\", availableOf, placesOfAccount),\n  { fields: (it) => [[\"flags\", flagNames(it.flags, ACCOUNT_FLAGS)],\n    [\"note\", own.names.get(it.id)?.note ?? \"\"], ...REFERENCE.fields(it)] },\n];\n\nfunction isListed(account) {\n  const begins = at(\"begins\").value.trim().toLowerCase();\n  const currency = at(\"currency\").value.trim().toUpperCase();\n  return (account.id.startsWith(begins) || nameOf(account.id).toLowerCase().startsWith(begins))\n    && (!currency || [ledgerText(account.ledger), String(account.ledger)].includes(currency));\n}\n\nfunction drawAccounts() {\n  const { rows, isWhole, clock } = state.accounts;\n  const found = rows.filter(isListed);\n  at(\"all\").hidden = isWhole;\n  const read = isWhole ? plural(rows.length, \"account\") : `${plural(rows.length, \"account\")} read`;\n  const caption = `${grouped(String(found.length))} of ${read}`\n    + (isWhole ? \"\" : \"; there are more\") + `, as of ${localText(clock)}`;\n  put(\"accounts-out\",\n    ...(clock ? list(caption, ACCOUNT_COLUMNS, found, \"accounts\") : []));\n  return caption;\n}\n\n// The first page shows that there are accounts; all of them are read where it is asked for.\nasync function loadAccounts(signal) {\n  if (state.accounts.isWhole) return loadAll(signal);\n  const page = await ask(signal, \"/query/accounts\", { limit: PAGE });\n  return Object.assign(state.accounts, { rows: page.accounts, clock: BigInt(page.clock),\n    isWhole: page.next === \"0\" });\n}\n\nasync function loadAll(signal) {\n  await readAccounts(signal);\n  tell(`${plural(state.accounts.rows.length, \"account\")} read.`);\n}\n\nasync function readAccounts(signal) {\n  const all = state.accounts = { rows: [], clock: 0n, isWhole: false, isOneMoment: true };\n  for await (const page of pagesOf(signal, \"/query/accounts\", {})) {\n    all.clock = BigInt(page.clock);\n    page.accounts.forEach((account) => all.rows.push({ ...account, clock: all.clock }));\n  }\n  await bringForward(signal, all);\n  all.isWhole = true;\n}\n\nasync function bringForward(signal, all) {\n  const since = all.rows[0]?.clock ?? all.clock;\n  if (since === all.clock) return;\n  all.isOneMoment = false;\n  const byId = new Map(all.rows.map((account) => [account.id, account]));\n  const bounds = { timestamp_min: String(since + 1n), timestamp_max: String(all.clock) };\n  for await (const page of pagesOf(signal, \"/query/transfers\", bounds)) {\n    page.transfers.filter(isPosted).forEach((transfer) => {\n      addTo(byId.get(transfer.debit_account_id), \"debits_posted\", transfer);\n      addTo(byId.get(transfer.credit_account_id), \"credits_posted\", transfer);\n    });\n  }\n}\n\nfunction addTo(account, sum, { timestamp, amount }) {\n  if (BigInt(timestamp) > account.clock) account[sum] = BigInt(account[sum]) + BigInt(amount);\n}\n\n// The trial balance, of whole lists alone.\n\nfunction verdictOn(word, debits, credits, places) {\n  const amount = amountText(debits, places);\n  if (debits === credits) return [true, `${word}: debits equal credits, ${amount}. `];\n  const more = debits > credits ? \"debits exceed credits\" : \"credits exceed debits\";\n  const by = debits > credits ? debits - credits : credits - debits;\n  return [false, `${word}: ${more} by ${amountText(by, places)}. `];\n}\n\nfunction verdictsOn(accounts, places, isOneMoment) {\n  const sum = (name) => sumOf(accounts, (it) => it[name]);\n  const verdicts = [verdictOn(\"Posted\", sum(\"debits_posted\"), sum(\"credits_posted\"), places)];\n  if (isOneMoment) {\n    verdicts.push(verdictOn(\"Held\", sum(\"debits_pending\"), sum(\"credits_pending\"), places));\n  }\n  const isEven = verdicts.every(([isGood]) => isGood);\n  return el(\"p\", { class: isEven ? \"good\" : \"bad\" }, ...verdicts.map(([, text]) => text));\n}\n\nconst positive = (value) => (value > 0n ? value : null);\n\nfunction trialOf(ledger, accounts, isOneMoment) {\n  const ids = accounts.map(({ id }) => id);\n  const places = () => placesOf(ledger, ids);\n  const columns = [\n    { ...accountColumn(\"Account\", (it) => it.id),\n      cell: (it) => (it.id ? accountLink(it.id) : \"Sum\") },\n    { ...numberColumn(\"Code\", (it) => it.code), cell: (it) => (it.id ? String(it.code) : \"\") },\n    moneyColumn(\"Debits\", (it) => it.debits_posted, places),\n    moneyColumn(\"Credits\", (it) => it.credits_posted, places),\n    moneyColumn(\"Debit balance\", (it) => it.debit ?? positive(-netOf(it)), places),\n    moneyColumn(\"Credit balance\", (it) => it.credit ?? positive(netOf(it)), places),\n  ];\n  const foot = {\n    debits_posted: sumOf(accounts, (it) => it.debits_posted),\n    credits_posted: sumOf(accounts, (it) => it.credits_posted),\n    debit: sumOf(accounts, (it) => positive(-netOf(it)) ?? 0n),\n    credit: sumOf(accounts, (it) => positive(netOf(it)) ?? 0n),\n  };\n  const name = currencyOf(ledger) ? `${currencyOf(ledger)} (ledger ${ledger})` : `Ledger ${ledger}`;\n  return [el(\"h3\", {}, name), verdictsOn(accounts, places(), isOneMoment),\n    ...list(plural(accounts.length, \"account\"), columns, accounts, `trial-balance-${ledger}`,\n      foot)];\n}\n\nconst byLedger = (rows) => [...Map.groupBy(rows, ({ ledger }) => ledger)]\n  .sort(([one], [other]) => one - other);\n\nfunction drawTrial() {\n  const { rows, isWhole, isOneMoment, clock } = state.accounts;\n  if (!isWhole) {\n    return put(\"trial-out\", el(\"p\", { class: \"hint\" }, rows.length\n      ? `${plural(rows.length, \"account\")} read, and there are more: `\n        + \"a part of them says nothing of their sums.\" : \"\"));\n  }\n  const held = isOneMoment ? [] : [\" The ledger went on meanwhile: posted amounts are all of this \"\n    + \"moment, held ones are not, so they are not compared.\"];\n  put(\"trial-out\",\n    el(\"p\", {}, `${plural(rows.length, \"account\")}, as of `, moment(clock), \".\", ...held),\n    ...byLedger(rows).flatMap(([ledger, accounts]) => trialOf(ledger, accounts, isOneMoment)));\n}\n\n// An account's statement. The ledger tells the opening balance of an account whose history it\n// keeps. For any other it is today's less all that was posted since, so the page reads that too.\n\nconst MOST_PRINTED = 5000;\n\n// What a transfer does to the posted balance: credits are positive.\nfunction effectOf(transfer, id) {\n  if (!isPosted(transfer)) return 0n;\n  return transfer.debit_account_id === id ? -BigInt(transfer.amount) : BigInt(transfer.amount);\n}\n\nasync function openingTold(signal, id, from) {\n  const { balances: [before] } = await ask(signal, \"/history/balances\", { account_id: id, limit: 1,\n    flags: 7, timestamp_max: String(from - 1n) });\n  return before ? netOf(before) : 0n;\n}\n\n// Its transfers from the one moment to the other, and what those behind them post.\nasync function transfersBetween(signal, { id }, { from, to }, readTo) {\n  let [found, later] = [[], 0n];\n  for await (const { transfers } of historyOf(signal, id, from, readTo)) {\n    for (const transfer of transfers) {\n      if (BigInt(transfer.timestamp) <= to) found.push(transfer);\n      else later += effectOf(transfer, id);\n    }\n  }\n  return { found, later };\n}\n\nfunction entriesOf(transfers, id, opening) {\n  let balance = opening;\n  return transfers.map((transfer) => {\n    const isDebit = transfer.debit_account_id === id;\n    balance += effectOf(transfer, id);\n    return { ...transfer, balance, side: isDebit ? \"debit\" : \"credit\",\n      other: isDebit ? transfer.credit_account_id : transfer.debit_account_id };\n  });\n}\n\nasync function readStatement(signal, id, { from, to: asked }) {\n  const { account, clock } = await accountOf(signal, id);\n  const to = asked ? least(asked, clock) : clock;\n  const isTold = !from || Boolean(account.flags & KEEPS_HISTORY);\n  const { found, later } = await transfersBetween(signal, account, { from, to },\n    isTold ? to : clock);\n  const moved = sumOf(found, (it) => effectOf(it, id));\n  const opening = !from ? 0n : isTold ? await openingTold(signal, id, from)\n    : netOf(account) - later - moved;\n  const entries = entriesOf(found, id, opening);\n  return { account, clock, from, to, opening, closing: opening + moved, entries,\n    isNow: to === clock };\n}\n\nasync function loadStatement(signal, id) {\n  state.statement = await readStatement(signal, id, boundsIn(\"from\", \"to\"));\n  tell(`${nameOf(id) || `Account ${id}`}: ${plural(state.statement.entries.length, \"entry\",\n    \"entries\")}.`);\n}\n\n// The side on which an account's balance is positive in its picture.\nfunction isDebitSide({ account: { flags }, closing }) {\n  return Boolean(flags & CREDITS_LIMITED) || !(flags & DEBITS_LIMITED) && closing < 0n;\n}\n\nfunction sumsShown({ account, from, to, isNow, opening, closing, entries }, places) {\n  const side = (name) => entries.filter((it) => it.side === name && isPosted(it));\n  const total = (name) => [amountText(sumOf(side(name), (it) => it.amount), places),\n    plural(side(name).length, \"entry\", \"entries\")];\n  const [debits, credits] = [BigInt(account.debits_pending), BigInt(account.credits_pending)];\n  const held = [-debits, credits].filter(Boolean).map((it) => balanceText(it, places));\n  const free = availableOf(account);\n  const rows = [\n    [\"Opening balance\", balanceText(opening, places), from ? localText(from) : \"at the beginning\"],\n    [\"Debits\", ...total(\"debit\")],\n    [\"Credits\", ...total(\"credit\")],\n    [\"Closing balance\", balanceText(closing, places), localText(to)],\n  ];\n  if (isNow) rows.push([\"Held\", held.join(\", \") || amountText(0, places), \"now\"]);\n  if (isNow && free !== null) rows.push([\"Available\", amountText(free, places), \"now\"]);\n  return el(\"dl\", { class: \"sums\" }, ...rows.map(([name, value, beside]) =>\n    el(\"div\", {}, el(\"dt\", {}, name), el(\"dd\", {}, value, el(\"small\", {}, beside)))));\n}\n\nfunction drawStatementHead(places) {\n  const { account, clock, from, to } = state.statement;\n  const note = own.names.get(account.id)?.note;\n  const about = el(\"span\", { class: \"screen\" }, `, code ${account.code}, flags: `\n    + `${flagNames(account.flags, ACCOUNT_FLAGS)}, reference: `, ...[referenceText(account)].flat(),\n  note ? ` \\u2013 ${note}` : \"\");\n  put(\"statement-head\",\n    el(\"p\", { class: \"print\" }, \"Statement of account\"),\n    el(\"h3\", {}, nameOf(account.id) || `Account ${account.id}`),\n    el(\"p\", { class: \"hint\" }, \"Account \", idText(account.id),\n      `, amounts in ${ledgerText(account.ledger)}`, about),\n    el(\"p\", {}, \"From \", from ? moment(from) : \"the first entry\", \" to \", moment(to), \".\"),\n    sumsShown(state.statement, places),\n    el(\"p\", { class: \"print\" }, \"All times are of \", ZONE, \", as of \", moment(clock), \".\"));\n}\n\nconst ZONE = Intl.DateTimeFormat().resolvedOptions().timeZone;\n\n// Where the balance stands at the end of each day, or of what else fits.\nfunction balanceBuckets({ from, to, entries }) {\n  const start = from || BigInt(entries[0].timestamp);\n  const width = bucketWidth(to - start, 31n);\n  const buckets = new Map();\n  for (const { timestamp, balance } of entries) {\n    buckets.set((BigInt(timestamp) - start) / width, balance);\n  }\n  return [...buckets].map(([place, balance]) =>\n    ({ end: least(start + (place + 1n) * width - 1n, to), balance }));\n}\n\nfunction balancePicture(statement, places) {\n  const { from, to, opening, closing, entries } = statement;\n  const isDebit = isDebitSide(statement);\n  const shown = (net) => (isDebit ? -net : net);\n  const start = from || BigInt(entries[0].timestamp);\n  const points = [{ time: start, value: shown(opening) }, ...entries.map((it) =>\n    ({ time: BigInt(it.timestamp), value: shown(it.balance) }))];\n  const write = (value) => amountText(value, places);\n  const title = `Balance over time, ${isDebit ? \"debits less credits\" : \"credits less debits\"}`;\n  return picture(title, `${title}: from ${balanceText(opening, places)} to `\n    + `${balanceText(closing, places)}`,\n  (width) => drawLine(width, points, [start, to], write),\n  table(\"Balance at the end of each part of the period\", [\n    timeColumn(\"Until\", (it) => String(it.end)),\n    moneyColumn(\"Balance\", (it) => it.balance, () => places, balanceText),\n  ], balanceBuckets(statement)));\n}\n\nfunction entryColumns(places) {\n  const money = (head, side) => moneyColumn(head,\n    (it) => (it.side === side && isPosted(it) ? it.amount : null), () => places);\n  return [\n    timeColumn(\"Time\", (it) => it.timestamp),\n    TRANSFER_ID,\n    textColumn(\"Kind\", kindOf),\n    accountColumn(\"Other account\", (it) => it.other),\n    moneyColumn(\"Held\", (it) => (isPosted(it) ? null : it.amount), () => places),\n    money(\"Debit\", \"debit\"),\n    money(\"Credit\", \"credit\"),\n    moneyColumn(\"Balance\", (it) => it.balance, () => places, balanceText),\n    { fields: (it) => [[\"side\", it.side], [\"code\", it.code], [\"pending_id\", it.pending_id],\n      ...REFERENCE.fields(it)] },\n  ];\n}\n\nfunction drawStatement() {\n  at(\"statement-out\").hidden = !state.statement;\n  if (!state.statement) return;\n  const { account, entries } = state.statement;\n  const places = placesOfAccount(account);\n  drawStatementHead(places);\n  put(\"balance-picture\", ...(entries.length ? [balancePicture(state.statement, places)] : []));\n  drawEntries();\n}\n\nfunction drawEntries(most) {\n  const { account, entries } = state.statement;\n  const columns = entryColumns(placesOfAccount(account));\n  put(\"entries\", ...(entries.length\n    ? [table(plural(entries.length, \"entry\", \"entries\"), columns, entries, { most }),\n      fileButtons(`statement-${account.id}`, columns, entries)]\n    : [el(\"p\", {}, \"No entries in this period.\")]));\n}\n\n// A printed statement has all entries.\nfunction printAll(most) {\n  if (view === \"statement\" && state.statement) drawEntries(most);\n}\n\nconst PERIODS = {\n  \"This month\": (year, month) => [[year, month, 1]],\n  \"Last month\": (year, month) => [[year, month - 1, 1], [year, month, 0]],\n  \"This year\": (year) => [[year, 0, 1]],\n  \"All entries\": () => [],\n  \"Chosen days\": null,\n};\n\nconst dayText = (date) => localText(nanosecondsOf(date)).slice(0, 10);\n\nfunction choosePeriod() {\n  const bounds = PERIODS[at(\"period\").value];\n  if (!bounds) return;\n  const today = new Date();\n  const [from, to] = bounds(today.getFullYear(), today.getMonth());\n  at(\"from\").value = from ? dayText(new Date(...from)) : \"\";\n  at(\"to\").value = to ? dayText(new Date(...to)) : \"\";\n}\n\n// A transfer, and what became of it.\n\nconst MOST_PAGES = 5;\n\n// A hold is ended by an entry of its own debit account. The ledger tells that it has ended; its\n// entry is looked for among the next ones.\nasync function endOf(signal, hold) {\n  let pages = 0;\n  for await (const { transfers } of historyOf(signal, hold.debit_account_id,\n    BigInt(hold.timestamp) + 1n, 0n)) {\n    const end = transfers.find((it) => it.pending_id === hold.id);\n    pages += 1;\n    if (end || pages === MOST_PAGES) return end;\n  }\n  return undefined;\n}\n\nasync function fateOf(signal, hold) {\n  const { pending: [fate], clock } = await ask(signal, \"/pending/lookup\", [hold.id]);\n  const isEnded = fate.state === \"posted\" || fate.state === \"voided\";\n  return { ...fate, clock, end: isEnded ? await endOf(signal, hold) : undefined };\n}\n\nasync function loadTransfer(signal, id) {\n  const [transfer] = await lookUp(signal, \"transfers\", [id]);\n  if (!transfer) throw new Told(\"There is no transfer with this id, or none yet.\");\n  const isEnd = transfer.flags & (POST | VOID);\n  const [hold] = isEnd ? await lookUp(signal, \"transfers\", [transfer.pending_id]) : [];\n  const fate = transfer.flags & PENDING ? await fateOf(signal, transfer) : null;\n  state.transfer = { transfer, hold, fate };\n}\n\nfunction fateOfEnd(transfer, hold, places) {\n  const ended = [\"the hold \", link(\"transfer\", hold.id), \".\"];\n  if (transfer.flags & VOID) return [\"Done: it voided \", ...ended];\n  const sums = `${amountText(transfer.amount, places)} of ${amountText(hold.amount, places)}`;\n  return [`Done: it posted ${sums} of `, ...ended];\n}\n\nfunction fateOfEnded(hold, fate, places) {\n  const by = fate.end ? [\" by \", link(\"transfer\", fate.end.id)]\n    : [\", by a later entry of \", accountLink(hold.debit_account_id)];\n  if (fate.state === \"voided\") return [\"Voided\", ...by, \": nothing was posted.\"];\n  if (!fate.end) return [\"Posted, whole or in part\", ...by, \".\"];\n  const sum = `: ${amountText(fate.end.amount, places)} of ${amountText(hold.amount, places)}.`;\n  return fate.end.amount === hold.amount ? [\"Posted whole\", ...by, sum]\n    : [\"Posted in part\", ...by, `${sum} The rest was released.`];\n}\n\nfunction fateOfHold(hold, fate, places) {\n  if (fate.state === \"expired\") return [\"Expired at \", moment(fate.due), \": nothing was posted.\"];\n  if (fate.state !== \"open\") return fateOfEnded(hold, fate, places);\n  const held = amountText(hold.amount, places);\n  if (fate.due === \"0\") return [`Open: ${held} are held, with no end set.`];\n  return [`Open: ${held} are held until `, moment(fate.due), \", as of \", moment(fate.clock), \".\"];\n}\n\nfunction fateText({ transfer, hold, fate }, places) {\n  if (fate) return fateOfHold(transfer, fate, places);\n  if (hold) return fateOfEnd(transfer, hold, places);\n  return [\"Done: its amount is in the posted balances.\"];\n}\n\nfunction drawTransfer() {\n  if (!state.transfer) {\n    put(\"fate\");\n    return put(\"transfer-out\");\n  }\n  const { transfer, hold } = state.transfer;\n  const places = placesOfTransfer(transfer);\n  const fields = [\n    ...TRANSFER_COLUMNS.filter(({ cell }) => cell).map(({ head, cell }) => [head, cell(transfer)]),\n    [\"Code\", String(transfer.code)],\n    [\"Flags\", flagNames(transfer.flags, TRANSFER_FLAGS)],\n    [\"Ends the hold\", hold ? link(\"transfer\", hold.id) : \"none\"],\n    [\"Timeout\", transfer.timeout ? `${grouped(String(transfer.timeout))} seconds` : \"none\"],\n    [\"Timestamp\", fullUtc(transfer.timestamp)],\n  ];\n  put(\"fate\", ...fateText(state.transfer, places));\n  return put(\"transfer-out\", ...fields.flatMap(([name, value]) =>\n    [el(\"dt\", {}, name), el(\"dd\", {}, ...[value].flat())]));\n}\n\n// Search. The ledger finds ids, and references by going through its records. Amounts are compared\n// here.\n\nconst MOST_FOUND = 5000;\n\nconst TRANSFER_COLUMNS = [\n  timeColumn(\"Time\", (it) => it.timestamp),\n  TRANSFER_ID,\n  textColumn(\"Kind\", kindOf),\n  accountColumn(\"Debit account\", (it) => it.debit_account_id),\n  accountColumn(\"Credit account\", (it) => it.credit_account_id),\n  LEDGER,\n  moneyColumn(\"Amount\", (it) => it.amount, placesOfTransfer),\n  REFERENCE,\n  { fields: (it) => [[\"code\", it.code], [\"pending_id\", it.pending_id], [\"timeout\", it.timeout]] },\n];\n\n// A number, or the number of a UUID.\nfunction numberIn(text) {\n  const isUuid = /^[0-9a-f]{8}(-[0-9a-f]{4}){3}-[0-9a-f]{12}$/i.test(text);\n  const number = isUuid ? String(BigInt(`0x${text.replaceAll(\"-\", \"\")}`)) : text;\n  if (!isId(number) || number === \"0\") {\n    throw new Told(`${text || \"Nothing\"} is neither a number nor a UUID.`);\n  }\n  return number;\n}\n\nasync function findId(signal, text) {\n  const id = [numberIn(text)];\n  state.found.accounts = await lookUp(signal, \"accounts\", id);\n  state.found.transfers = await lookUp(signal, \"transfers\", id);\n}\n\n// Goes through the transfers between the two dates, the newest first.\nasync function findTransfers(signal, query, isMeant) {\n  const { from, to } = boundsIn(\"search-from\", \"search-to\");\n  const bounds = { timestamp_min: String(from), timestamp_max: String(to), flags: 1 };\n  for await (const page of pagesOf(signal, \"/query/transfers\", { ...query, ...bounds })) {\n    state.found.transfers.push(...page.transfers.filter(isMeant));\n    if (state.found.transfers.length >= MOST_FOUND) throw new Told(\"There are more: choose days.\");\n  }\n}\n\n// What has this number in one of its three fields for references.\nasync function findReference(signal, text) {\n  const number = numberIn(text);\n  for (const bits of [128, 64, 32].filter((it) => BigInt(number) < 2n ** BigInt(it))) {\n    const query = { [`user_data_${bits}`]: bits === 32 ? Number(number) : number };\n    for await (const page of pagesOf(signal, \"/query/accounts\", query)) {\n      state.found.accounts.push(...page.accounts);\n    }\n    const isNew = (it) => state.found.transfers.every(({ id }) => id !== it.id);\n    await findTransfers(signal, query, isNew);\n  }\n}\n\nasync function findAmount(signal, text) {\n  const [low, high = low] = text.split(\"-\").map(typedAmount);\n  await findTransfers(signal, {}, (transfer) => {\n    const [value, places] = [BigInt(transfer.amount), BigInt(placesOfTransfer(transfer))];\n    const beyond = (typed) => value * 10n ** BigInt(typed.places) - typed.digits * 10n ** places;\n    return beyond(low) >= 0n && beyond(high) <= 0n;\n  });\n}\n\nconst KINDS = { Id: findId, Reference: findReference, Amount: findAmount };\n\nasync function search(signal) {\n  const found = state.found = { accounts: [], transfers: [], isWhole: false };\n  await KINDS[at(\"kind\").value](signal, at(\"sought\").value.trim());\n  found.isWhole = true;\n  tell(`${plural(found.accounts.length, \"account\")} and `\n    + `${plural(found.transfers.length, \"transfer\")} found.`);\n}\n\nfunction drawFound() {\n  if (!state.found) return put(\"search-out\");\n  const { accounts, transfers, isWhole } = state.found;\n  const soFar = isWhole ? \"\" : \" so far; not all was looked at\";\n  return put(\"search-out\",\n    ...(accounts.length ? list(`${plural(accounts.length, \"account\")}${soFar}`, ACCOUNT_COLUMNS,\n      accounts, \"accounts-found\") : []),\n    ...list(`${plural(transfers.length, \"transfer\")}${soFar}`, TRANSFER_COLUMNS, transfers,\n      \"transfers-found\"));\n}\n\n// Holds that are open.\n\nconst HOLD_COLUMNS = [\n  timeColumn(\"Due\", (it) => it.due),\n  { ...TRANSFER_ID, head: \"Hold\" },\n  accountColumn(\"Debit account\", (it) => it.debit_account_id),\n  accountColumn(\"Credit account\", (it) => it.credit_account_id),\n  LEDGER,\n  moneyColumn(\"Amount\", (it) => it.amount, placesOfTransfer),\n  timeColumn(\"Since\", (it) => it.timestamp),\n  { fields: REFERENCE.fields },\n];\n\nasync function loadHolds(signal) {\n  const holds = state.holds = { rows: [], isWhole: false, clock: 0n };\n  for await (const page of pagesOf(signal, \"/pending/open\", { flags: 1 })) {\n    holds.clock = BigInt(page.clock);\n    const due = new Map(page.pending.map((it) => [it.id, it.due]));\n    const transfers = await lookUp(signal, \"transfers\", [...due.keys()]);\n    transfers.forEach((it) => holds.rows.push({ ...it, due: due.get(it.id) }));\n  }\n  holds.isWhole = true;\n  tell(`${plural(holds.rows.length, \"open hold\")}.`);\n}\n\n// Amounts by due time; those without an end come last. What fell due since it was read is due now.\nfunction dueBuckets(rows, clock) {\n  const last = [clock + 1n, ...rows.map(({ due }) => BigInt(due))].sort(inOrder).at(-1);\n  const width = bucketWidth(last - clock, 24n);\n  const count = Number((last - clock) / width) + 1;\n  const buckets = Array.from({ length: count }, (_, place) => {\n    const from = clock + BigInt(place) * width;\n    const when = localText(from);\n    const label = width < DAY ? when.slice(5, 16) : when.slice(0, 10);\n    return { when, label, value: 0n, count: 0 };\n  });\n  const endless = { label: \"no end\", when: \"no end\", value: 0n, count: 0, isLast: true };\n  for (const { due, amount } of rows) {\n    const place = Math.max(0, Number((BigInt(due) - clock) / width));\n    const bucket = due === \"0\" ? endless : buckets[place];\n    bucket.value += BigInt(amount);\n    bucket.count += 1;\n  }\n  return endless.count ? [...buckets, endless] : buckets;\n}\n\nfunction bucketPicture(title, buckets, places, head) {\n  const write = (value) => amountText(value, places);\n  return picture(title, `${title}: ${write(sumOf(buckets, (it) => it.value))} in all`,\n    (width) => drawBars(width, buckets, write),\n    table(title, [\n      textColumn(head, (it) => it.when),\n      numberColumn(\"Number\", (it) => it.count),\n      moneyColumn(\"Amount\", (it) => it.value, () => places),\n    ], buckets));\n}\n\nconst placesIn = (transfers) => placesOf(transfers[0].ledger,\n  transfers.slice(0, PAGE).flatMap((it) => [it.debit_account_id, it.credit_account_id]));\n\nfunction drawHolds() {\n  if (!state.holds) return put(\"holds-out\");\n  const { rows, isWhole, clock } = state.holds;\n  const pictures = isWhole ? byLedger(rows).map(([ledger, holds]) =>\n    bucketPicture(`Open holds by due time, ${ledgerText(ledger)}`, dueBuckets(holds, clock),\n      placesIn(holds), \"Due from\")) : [];\n  const soFar = isWhole ? \"\" : \" so far; not all were read\";\n  return put(\"holds-out\", ...pictures, ...list(`${plural(rows.length, \"open hold\")}${soFar}`\n    + `, as of ${localText(clock)}`, HOLD_COLUMNS, rows, \"holds\"));\n}\n\n// A day's volume by hour.\n\nasync function loadDay(signal) {\n  const day = at(\"day\").value;\n  if (!day) throw new Told(\"Choose a day.\");\n  const [from, to] = [midnight(day), midnight(day, 1) - 1n];\n  const shown = state.day = { from, to, transfers: [], isWhole: false };\n  const bounds = { timestamp_min: String(from), timestamp_max: String(to) };\n  for await (const page of pagesOf(signal, \"/query/transfers\", bounds)) {\n    shown.transfers.push(...page.transfers.filter(isPosted));\n  }\n  shown.isWhole = true;\n  tell(`${plural(shown.transfers.length, \"transfer\")} on ${day}.`);\n}\n\nfunction hoursOf(transfers, { from, to }) {\n  const hours = Array.from({ length: Number((to - from) / HOUR) + 1 }, (_, place) => {\n    const when = localText(from + BigInt(place) * HOUR).slice(11, 16);\n    return { label: when, when, value: 0n, count: 0 };\n  });\n  for (const { timestamp, amount } of transfers) {\n    const hour = hours[Number((BigInt(timestamp) - from) / HOUR)];\n    hour.value += BigInt(amount);\n    hour.count += 1;\n  }\n  return hours;\n}\n\nfunction drawDay() {\n  if (!state.day) return put(\"day-out\");\n  const { transfers, isWhole } = state.day;\n  const soFar = isWhole ? \"\" : \"So far; not all of the day was read.\";\n  return put(\"day-out\", el(\"p\", { class: \"hint\" }, soFar),\n    ...(transfers.length ? [] : [\"No transfers were posted.\"]),\n    ...byLedger(transfers).map(([ledger, those]) => bucketPicture(\n      `Posted by hour, ${ledgerText(ledger)}, ${plural(those.length, \"transfer\")}`,\n      hoursOf(those, state.day), placesIn(those), \"Hour\")));\n}\n\n// New transfers: one request a turn, of all that came behind the last one.\n\nconst POLLED = 2000;\nconst FOLLOWED = 200;\nconst pause = () => new Promise((done) => { setTimeout(done, POLLED); });\n\nfunction drawNew() {\n  at(\"follow\").setAttribute(\"aria-pressed\", String(Boolean(following)));\n  const { count, followed, since } = state;\n  const newest = count > followed.length ? `; the newest ${followed.length} are shown` : \"\";\n  put(\"new-out\", ...(since ? [table(`${plural(count, \"new transfer\")} since ${localText(since)}`\n    + newest, TRANSFER_COLUMNS, followed)] : []));\n}\n\nfunction showNew(transfers) {\n  state.count += transfers.length;\n  state.followed = [...transfers.toReversed(), ...state.followed].slice(0, FOLLOWED);\n  if (view === \"new\") {\n    drawNew();\n    tell(`${plural(transfers.length, \"new transfer\")}.`);\n  } else if (!working) tell(`${plural(state.count, \"new transfer\")} came meanwhile.`);\n}\n\n// Where to go on behind a page. Where the service can wait for the next transfer, only the pause\n// between two turns goes.\nasync function followFrom(signal, since) {\n  const page = await ask(signal, \"/query/transfers\", { limit: PAGE, timestamp_min: String(since) });\n  if (page.transfers.length) showNew(page.transfers);\n  if (page.next !== \"0\") return BigInt(page.next);\n  await pause();\n  return BigInt(page.clock) + 1n;\n}\n\nasync function oneTurn(signal, since) {\n  try {\n    const next = await followFrom(signal, since);\n    if (at(\"wrong\").textContent === REFUSALS.no_answer) warn(\"\");\n    return next;\n  } catch (error) {\n    if (!(error instanceof Told) || error.refusal === \"unknown_key\") throw error;\n    warn(error.message);\n    await pause();\n    return since;\n  }\n}\n\nasync function follow(signal) {\n  const { clock } = await ask(signal, \"/query/transfers\", { limit: 1, flags: 1 });\n  let since = BigInt(clock) + 1n;\n  Object.assign(state, { since, count: 0, followed: [] });\n  drawNew();\n  tell(\"New transfers are followed.\");\n  while (!signal.aborted) {\n    if (document.hidden) await pause();\n    else since = await oneTurn(signal, since);\n  }\n}\n\nfunction stopFollowing() {\n  following?.abort();\n  following = null;\n}\n\nfunction turnFollowing() {\n  if (following) {\n    stopFollowing();\n    tell(\"New transfers are no longer followed.\");\n    return drawNew();\n  }\n  const mine = following = new AbortController();\n  follow(mine.signal).catch(showFault).finally(() => {\n    if (following === mine) stopFollowing();\n    drawNew();\n  });\n}\n\n// Names and decimals.\n\nfunction drawNames() {\n  const { size } = own.names;\n  at(\"names-kept\").textContent = size ? `${plural(size, \"name\")} kept.` : \"No names are kept.\";\n  at(\"names-remove\").hidden = !size;\n  at(\"iso\").checked = own.isIso;\n  at(\"decimals\").value = [...own.decimals].map((it) => it.join(\":\")).join(\" \");\n}\n\nfunction changeOwn(change) {\n  own = { ...own, ...change };\n  keepOwn();\n  drawNames();\n}\n\nasync function readNames() {\n  const [file] = at(\"names-file\").files;\n  if (!file) return;\n  at(\"names-file\").value = \"\";\n  const names = namesIn(await textOf(file));\n  changeOwn({ names });\n  tell(`${plural(names.size, \"name\")} read from ${file.name}.`);\n}\n\nfunction removeNames() {\n  changeOwn({ names: new Map() });\n  tell(\"The names are removed from this browser.\");\n}\n\nfunction readDecimals() {\n  const read = at(\"decimals\").value.split(/[\\s,;]+/).filter(Boolean).map((word) => {\n    const found = /^(\\d{1,10}):(\\d{1,2})$/.exec(word);\n    if (!found || found[2] > 38) throw new Told(`${word} is no ledger with decimals: 7:3 is.`);\n    return [Number(found[1]), Number(found[2])];\n  });\n  changeOwn({ decimals: new Map(read) });\n  tell(\"These decimals are used.\");\n}\n\n// Views, by what stands behind # in the address: #statement/3.\n\n// An id as it is, a UUID's number, or the id of the one account that has this name.\nfunction accountIn(text) {\n  const named = [...own.names].filter(([, { name }]) => name.toLowerCase() === text.toLowerCase());\n  if (named.length === 1) return named[0][0];\n  if (named.length) throw new Told(`${named.length} accounts have the name ${text}.`);\n  return numberIn(text);\n}\n\n// What a view reads once it is gone to, and whether that is known already. One with a field reads\n// what the address names.\nconst VIEWS = {\n  accounts: { draw: drawAccounts, load: loadAccounts, isKnown: () => state.accounts.clock },\n  statement: {\n    draw: drawStatement,\n    load: (signal, text) => loadStatement(signal, accountIn(text)),\n    field: \"account\",\n  },\n  transfer: {\n    draw: drawTransfer,\n    load: (signal, text) => loadTransfer(signal, numberIn(text)),\n    field: \"transfer\",\n  },\n  search: { draw: drawFound },\n  holds: { draw: drawHolds, load: loadHolds, isKnown: () => state.holds },\n  day: { draw: drawDay },\n  trial: { draw: drawTrial, load: loadAll, isKnown: () => state.accounts.isWhole },\n  new: { draw: drawNew },\n  names: { draw: drawNames },\n};\n\nfunction showFault(error) {\n  if (error.name === \"AbortError\") return;\n  if (!(error instanceof Told)) throw error;\n  tell(\"\");\n  warn(error.message);\n}\n\n// Does something for the person, and says what went wrong with it. It is given up once another view\n// is gone to, or where the person stops it.\nasync function run(work) {\n  warn(\"\");\n  working += 1;\n  at(\"stop\").hidden = false;\n  try {\n    await work(routed.signal);\n  } catch (error) {\n    showFault(error);\n  } finally {\n    working -= 1;\n    at(\"stop\").hidden = !working;\n  }\n}\n\n// Reads what the view shows; it shows what there is of it also where the reading ends early.\nconst read = (load) => run(async (signal) => {\n  try {\n    await load(signal);\n  } finally {\n    VIEWS[view].draw();\n  }\n});\n\nfunction renewRoute() {\n  routed.abort();\n  routed = new AbortController();\n}\n\nfunction stopReading() {\n  renewRoute();\n  tell(\"Stopped: what is shown is a part.\");\n}\n\nfunction showView(name) {\n  view = name;\n  for (const section of document.querySelectorAll(\"section\")) {\n    section.hidden = section.dataset.view !== name;\n  }\n  for (const each of at(\"views\").children) {\n    if (each.hash === `#${name}`) each.setAttribute(\"aria-current\", \"page\");\n    else each.removeAttribute(\"aria-current\");\n  }\n  const title = document.querySelector(`section[data-view=\"${name}\"] h2`);\n  document.title = `${title.textContent} \\u2013 Ledger console`;\n  title.focus();\n}\n\nfunction readAnew(name, text) {\n  const { draw, load, field } = VIEWS[name];\n  if (field) {\n    state[name] = null;\n    at(field).value = text;\n    draw();\n  }\n  if (field ? text : load) read((signal) => load(signal, text));\n}\n\nfunction route() {\n  const [name, text = \"\"] = location.hash.slice(1).split(\"/\").map(decodeURIComponent);\n  const next = state.key ? (Object.hasOwn(VIEWS, name) ? name : \"accounts\") : \"key\";\n  renewRoute();\n  tell(\"\");\n  warn(\"\");\n  if (next !== view) showView(next);\n  at(\"again\").hidden = !VIEWS[next]?.load;\n  if (next === \"key\") return;\n  VIEWS[next].draw();\n  if (!VIEWS[next].isKnown?.()) readAnew(next, text);\n}\n\nfunction lookAgain() {\n  const [, text = \"\"] = location.hash.slice(1).split(\"/\").map(decodeURIComponent);\n  renewRoute();\n  readAnew(view, text);\n}\n\nfunction goTo(name, text) {\n  const hash = `#${name}/${encodeURIComponent(text)}`;\n  if (location.hash === hash) route();\n  else location.hash = hash;\n}\n\n// The key.\n\nasync function openBy(signal, key) {\n  if (!/^[0-9a-f]{64}$/i.test(key)) {\n    throw new Told(`A key has 64 hexadecimal digits; this has ${plural(key.length, \"character\")}.`);\n  }\n  state.key = key;\n  try {\n    const { accounts: [first] } = await ask(signal, \"/query/accounts\", { limit: 1 });\n    state.book = first?.timestamp ?? \"\";\n  } catch (error) {\n    state.key = \"\";\n    throw error;\n  }\n  readOwn();\n}\n\nfunction showWhetherOpen() {\n  for (const id of [\"views\", \"forget\"]) at(id).hidden = !state.key;\n  if (state.key) at(\"key\").value = \"\";\n}\n\nasync function enterKey(signal) {\n  const field = at(\"key\");\n  field.removeAttribute(\"aria-invalid\");\n  try {\n    await openBy(signal, field.value.trim());\n  } catch (error) {\n    field.setAttribute(\"aria-invalid\", \"true\");\n    field.focus();\n    throw error;\n  }\n  showWhetherOpen();\n  route();\n}\n\nfunction forget() {\n  stopFollowing();\n  [state, own] = [nothingKnown(), nothingOwn()];\n  for (const { draw } of Object.values(VIEWS)) draw();\n  showWhetherOpen();\n  route();\n  tell(\"The key is forgotten, and all that was shown by it. Names stay in this browser.\");\n}\n\n// What the person does.\n\nfor (const form of document.forms) form.noValidate = true;\n\nconst on = (id, event, work) => at(id).addEventListener(event, (happened) => {\n  if (event === \"submit\") happened.preventDefault();\n  run(work);\n});\n\nconst options = (id, names) => at(id).append(...names.map((name) => el(\"option\", {}, name)));\n\noptions(\"period\", Object.keys(PERIODS));\noptions(\"kind\", Object.keys(KINDS));\nchoosePeriod();\nat(\"day\").value = dayText(new Date());\non(\"key-form\", \"submit\", enterKey);\non(\"forget\", \"click\", forget);\nat(\"again\").addEventListener(\"click\", lookAgain);\nat(\"stop\").addEventListener(\"click\", stopReading);\nat(\"all\").addEventListener(\"click\", () => read(loadAll));\non(\"begins\", \"input\", () => tell(drawAccounts()));\non(\"currency\", \"input\", () => tell(drawAccounts()));\non(\"statement-form\", \"submit\", () => goTo(\"statement\", at(\"account\").value.trim()));\non(\"period\", \"change\", () => {\n  choosePeriod();\n  if (state.statement) route();\n});\nfor (const id of [\"from\", \"to\"]) on(id, \"change\", () => { at(\"period\").value = \"Chosen days\"; });\non(\"transfer-form\", \"submit\", () => goTo(\"transfer\", at(\"transfer\").value.trim()));\non(\"search-form\", \"submit\", () => read(search));\non(\"day-form\", \"submit\", () => read(loadDay));\non(\"print\", \"click\", () => window.print());\non(\"follow\", \"click\", turnFollowing);\non(\"names-file\", \"change\", readNames);\non(\"names-remove\", \"click\", removeNames);\non(\"iso\", \"change\", () => changeOwn({ isIso: at(\"iso\").checked }));\non(\"names-form\", \"submit\", readDecimals);\nat(\"skip\").addEventListener(\"click\", (happened) => {\n  happened.preventDefault();\n  at(\"content\").focus();\n});\nwindow.addEventListener(\"beforeprint\", () => printAll(MOST_PRINTED));\nwindow.addEventListener(\"afterprint\", () => printAll(MOST_ROWS));\nwindow.addEventListener(\"hashchange\", route);\nat(\"key\").focus();\n</script>\n</body>\n</html>\n"
